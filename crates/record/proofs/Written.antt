-- Where the bytes of an answer and of the estimates stand. Assumes nothing.
use Prim.Native.Nat.{ℕ, ◌+◌, ◌*◌, ◌/◌, ◌%◌, ◌^◌, ◌<◌}
use mathlib.Core.Path.{◌≡◌, refl, sym, ap, ◌∙◌}
use mathlib.Core.List.{List, ◌++◌, append_assoc}
use native.Mathlib.Omega.{arith}
use lib.Dec.{T}
use lib.ListN.{length, get_or, get_or-append}
use lib.Seq.{get_or-append-add}
use lib.Ieee.{Float, nan, binary32, fits, of_bits, to_bits}
use lib.Ieee.Bits.{of_bits-to_bits}
use Rattle.seq.specs.Cat.Laws.{length_cat, get_d_cat}
use Rattle.refine.specs.Refine.{ncell, nbits, refined_of, answer_of, channel_of}
use Rattle.words.specs.Bytes.{number}
use Rattle.words.proofs.Stored.{length_word}
use Rattle.wire.specs.Record.{burst_of, prior_of}
use Rattle.wire.specs.Bytes.{number_bytes, report_bytes}
use Rattle.record.specs.Answer.{answer_bytes, channel_bytes}
use Rattle.wire.proofs.Digits.{four_bytes}
use Rattle.wire.proofs.Laid.{length_report}

-- ---- a number

pub same_word : (x y : ℕ) → x / 2 ^ 24 ≡ y / 2 ^ 24 → x / 2 ^ 16 % 2 ^ 8 ≡ y / 2 ^ 16 % 2 ^ 8 → x / 2 ^ 8 % 2 ^ 8 ≡ y / 2 ^ 8 % 2 ^ 8 → x % 2 ^ 8 ≡ y % 2 ^ 8 → x ≡ y
same_word x y a b c d = sym (four_bytes x) ∙ (rw (a, b, c, d) refl ∙ four_bytes y)

-- two f32 with one pattern are one
pub same_pattern : (x y : Float) → T (fits binary32 x) → T (fits binary32 y) → to_bits binary32 x ≡ to_bits binary32 y → x ≡ y
same_pattern x y f g e = sym (of_bits-to_bits binary32 x f) ∙ (ap (of_bits binary32) e ∙ of_bits-to_bits binary32 y g)

-- ---- byte t of number i

module _ (n : ℕ) (xs : List Float) where
  pub length_numbers : length (number_bytes n xs) ≡ n * 4
  length_numbers = length_cat 4 (λ i. number (get_or xs i nan)) (λ i. length_word (to_bits binary32 (get_or xs i nan))) n

  pub number_at : (old : List ℕ) (i t : ℕ) → i < n → t < 4 → get_or (number_bytes n xs ++ old) (i * 4 + t) 0 ≡ get_or (number (get_or xs i nan)) t 0
  number_at old i t h h' =
      get_or-append (number_bytes n xs) old 0 (i * 4 + t) (omega (arith, length_numbers))
      ∙ get_d_cat 4 (λ k. number (get_or xs k nan)) 0 (λ k. length_word (to_bits binary32 (get_or xs k nan))) n i t h h'

-- ---- an answer, and the estimates beside it

module _ (rec : List ℕ) (out old : List ℕ) where
  abbrev report : List ℕ
  report = report_bytes (refined_of (burst_of rec) (prior_of rec))

  abbrev numbers : List ℕ
  numbers = number_bytes (nbits (burst_of rec)) (answer_of (burst_of rec) (prior_of rec))

  parts : out ≡ answer_bytes rec ++ old → out ≡ report ++ (numbers ++ old)
  unfolding answer_bytes
  parts e = e ∙ append_assoc report numbers old

  pub report_at : out ≡ answer_bytes rec ++ old → (t : ℕ) → t < 10 → get_or out t 0 ≡ get_or report t 0
  report_at e t h = rw (parts e) (get_or-append report (numbers ++ old) 0 t (omega (arith, length_report (refined_of (burst_of rec) (prior_of rec)))))

  pub likelihood_at : out ≡ answer_bytes rec ++ old → (i t : ℕ) → i < nbits (burst_of rec) → t < 4
      → get_or out (10 + 4 * i + t) 0 ≡ get_or (number (get_or (answer_of (burst_of rec) (prior_of rec)) i nan)) t 0
  likelihood_at e i t h h' =
      let n : 10 + 4 * i + t ≡ length report + (i * 4 + t) = omega (arith, length_report (refined_of (burst_of rec) (prior_of rec))) in
      rw (parts e, n) (get_or-append-add report (numbers ++ old) (i * 4 + t) 0 ∙ number_at (nbits (burst_of rec)) (answer_of (burst_of rec) (prior_of rec)) old i t h h')

  pub channel_at : out ≡ channel_bytes rec ++ old → (i t : ℕ) → i < 3 * ncell (burst_of rec) → t < 4
      → get_or out (i * 4 + t) 0 ≡ get_or (number (get_or (channel_of (burst_of rec) (prior_of rec)) i nan)) t 0
  unfolding channel_bytes
  channel_at e i t h h' = rw e (number_at (3 * ncell (burst_of rec)) (channel_of (burst_of rec) (prior_of rec)) old i t h h')
