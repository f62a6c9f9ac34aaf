-- What is put into the text is what the record's lines mean. Assumes nothing.
use Prim.Native.Nat.{ℕ, ◌+◌, ◌*◌, ◌<◌}
use mathlib.Core.Path.{◌≡◌, refl, sym, ap, ◌∙◌}
use mathlib.Core.Bool.{true}
use mathlib.Core.List.{List, ◌++◌, append_assoc}
use native.Mathlib.Omega.{arith}
use borrow.Author.Tests.{eq-eqb, ne_eqb}
use lib.ListN.{length, drop, get_or}
use lib.Dec.{leb}
use lib.Ieee.{Float, binary32, to_bits, nan}
use Rattle.seq.specs.Cat.Laws.{cat-same}
use Rattle.refine.specs.declared.whole.Refined.{Refined}
use Rattle.refine.specs.Refine.{nbits, refined_of, answer_of}
use Rattle.words.specs.Bytes.{word_at, word}
use Rattle.wire.specs.Record.{burst_of, prior_of}
use Rattle.wire.specs.Shape.{bits_of, answer_length}
use Rattle.record.specs.Refusals.{refusal_in}
use Rattle.wire.specs.Bytes.{report_bytes, number_bytes}
use Rattle.record.specs.Answer.{answer_bytes, Answers}
use Rattle.burst.specs.Lines.{line_of, heading, likelihood_lines, refused_of, answer_lines, lines_of}
use Rattle.burst.proofs.Reading.{word_past, word_of}
use Rattle.burst.proofs.Accepted.{room_enough, bits_of_lem}

-- ---- the report read back

module _ (r : Refined) (l : List ℕ) where
  length_report : length (report_bytes r) ≡ 10
  unfolding report_bytes word
  length_report = refl

  report_fd : get_or (report_bytes r ++ l) 0 0 ≡ r.model.fd
  unfolding report_bytes
  report_fd = refl

  report_tm : get_or (report_bytes r ++ l) 1 0 ≡ r.model.tm
  unfolding report_bytes
  report_tm = refl

  report_scale : word_at (report_bytes r ++ l) 2 ≡ to_bits binary32 r.model.scale
  unfolding report_bytes word_at word
  report_scale = omega arith

  report_spoilt : word_at (report_bytes r ++ l) 6 ≡ r.spoilt
  unfolding report_bytes word_at word
  report_spoilt = omega arith

-- ---- the lines of an answer's bytes

lines_of_bytes : (r : Refined) (n : ℕ) (xs : List Float) (l out : List ℕ) → out ≡ report_bytes r ++ (number_bytes n xs ++ l)
    → answer_lines out n ≡ heading n r ++ likelihood_lines n xs
unfolding answer_lines
lines_of_bytes r n xs l out e =
    let rest : List ℕ = number_bytes n xs ++ l in
    let bits : ℕ → ℕ = λ i. to_bits binary32 (get_or xs i nan) in
    let at : (i : ℕ) → i < n → line_of (word_at (report_bytes r ++ rest) (10 + 4 * i)) ≡ line_of (bits i) =
    λ i h. ap line_of (word_past (report_bytes r) rest 10 (4 * i) (length_report r rest) ∙ word_of bits n i l h) in
    rw (e, report_fd r rest, report_tm r rest, report_scale r rest, report_spoilt r rest)
    (ap (λ (m : List ℕ). heading n r ++ m) (cat-same n (λ i. line_of (word_at (report_bytes r ++ rest) (10 + 4 * i))) (λ i. line_of (bits i)) at))

module _ (rec : List ℕ) where
  accepted_lines : (l out : List ℕ) → out ≡ answer_bytes rec ++ l → refusal_in rec true ≡ 0 → answer_lines out (nbits (burst_of rec)) ≡ lines_of rec
  unfolding lines_of answer_bytes
  accepted_lines l out e h =
      let r = refined_of (burst_of rec) (prior_of rec) in
      let xs = answer_of (burst_of rec) (prior_of rec) in
      let n = nbits (burst_of rec) in
      rw (eq-eqb (refusal_in rec true) 0 h) (lines_of_bytes r n xs l out (e ∙ append_assoc (report_bytes r) (number_bytes n xs) l))

  refused_lines : (refusal_in rec true ≡ 0 → ⊥) → refused_of (refusal_in rec true) ≡ lines_of rec
  unfolding lines_of
  refused_lines h = rw (ne_eqb (refusal_in rec true) 0 h) refl

-- ---- the two ways that `lines` ends

module _ (rec : List ℕ) (q : ℕ) (out₀ out₁ : List ℕ) (room : length out₀ ≡ 16354) (a : Answers rec q out₀ out₁) where
  refusal : q ≡ refusal_in rec true
  refusal = a.result ∙ (ap (λ (k : ℕ). refusal_in rec (leb (answer_length rec) k)) room ∙ room_enough rec)

  pub print_refused : (q ≡ 0 → ⊥) → refused_of q ≡ lines_of rec
  print_refused h = ap refused_of refusal ∙ refused_lines rec (λ e. h (refusal ∙ e))

  pub print_answer : (n : ℕ) → n ≡ bits_of rec → q ≡ 0 → answer_lines out₁ n ≡ lines_of rec
  print_answer n e h =
      let z : refusal_in rec true ≡ 0 = sym refusal ∙ h in
      ap (answer_lines out₁) (e ∙ bits_of_lem rec true z) ∙ accepted_lines rec (drop (answer_length rec) out₀) out₁ (a.accepted h) z
