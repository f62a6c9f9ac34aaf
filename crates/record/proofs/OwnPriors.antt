-- Demand 3 of two calls: the bytes are those of floats that refine's theorem says are the same. Assumes nothing.
use Prim.Native.Nat.{ℕ, ◌+◌, ◌*◌, ◌/◌, ◌%◌, ◌≤◌, ◌<◌}
use mathlib.Core.Path.{◌≡◌, refl, sym, ap, subst, ◌∙◌}
use mathlib.Core.Logic.{◌⊎◌, inl, inr}
use mathlib.Core.List.{List, ◌++◌}
use native.Mathlib.Omega.{arith}
use lib.Dec.{T}
use lib.ListN.{get_or}
use lib.Ieee.{Float, nan, inf, fin, binary32, fits, to_bits, up, down}
use lib.Ieee.Bits.{of_bits-fits}
use lib.Ieee.Fits.{nan-fits, inf-fits, round-fits}
use Rattle.ieee.specs.Narrow.{narrowed}
use Rattle.load.specs.declared.pilot.Pilot.{Pilot}
use Rattle.model.specs.Select.{scale_of, select_model}
use Rattle.model.specs.Laws.{FirstLeast, Chosen, Fallback}
use Rattle.model.specs.declared.trial.Setting.{Setting}
use Rattle.model.specs.declared.select.Model.{Model}
use Rattle.model.proofs.First.{first_least}
use Rattle.refine.specs.Refine.{Burst, nsym, ncell, nbits, setting, pilots, starts, model, refined_of, answer_of, channel_of}
use Rattle.refine.specs.Independence.{OwnBit, SameCell}
use Rattle.refine.proofs.Independence.{same_model, cell_same}
use Rattle.phy.proofs.OwnPriors.{same_burst}
use Rattle.words.specs.Bytes.{word, number}
use Rattle.wire.specs.Record.{burst_of, prior_of}
use Rattle.wire.specs.Bytes.{report_bytes}
use Rattle.record.specs.Answer.{answer_bytes, channel_bytes}
use Rattle.record.specs.Independence.{SameBytes, OwnPriors, SameLikelihoods, Independence, IndependenceBoth}
use Rattle.record.proofs.Written.{same_word, same_pattern, report_at, likelihood_at, channel_at}
use Rattle.record.proofs.Accepted.{few}

-- ---- the reported scale is an f32

narrowed_fits : (x : Float) → T (fits binary32 (narrowed x))
unfolding narrowed
narrowed_fits nan = nan-fits binary32
narrowed_fits (inf s) = inf-fits binary32 s
narrowed_fits (fin s m e) = round-fits binary32 s (m * up e) (down e)

selected_fits : (s : Setting) (ps : List Pilot) (start : List ℕ) → T (fits binary32 (select_model s ps start).scale)
unfolding FirstLeast
selected_fits s ps start = go (first_least s ps start)
  where
    go : ((t : ℕ) × Chosen s ps start t) ⊎ Fallback s ps start → T (fits binary32 (select_model s ps start).scale)
    go (inl c) = rw c.1.is (unfold scale_of in narrowed_fits _)
    go (inr f) = rw f.is (of_bits-fits binary32 0x3f80_0000)

scale_fits : (b : Burst) (p : List Float) → T (fits binary32 (model b p).scale)
unfolding model
scale_fits b p = selected_fits (setting b) (pilots b p) (starts b p)

-- ---- six bytes are a model

model_same : (b b' : Burst) (p q : List Float) → ((t : ℕ) → t < 6 → get_or (report_bytes (refined_of b p)) t 0 ≡ get_or (report_bytes (refined_of b' q)) t 0)
    → model b p ≡ model b' q
unfolding report_bytes refined_of word
model_same b b' p q h =
    let x = (model b p).scale in
    let y = (model b' q).scale in
    same_model (model b p) (model b' q) (h 0 (omega arith)) (h 1 (omega arith))
    (same_pattern x y (scale_fits b p) (scale_fits b' q)
    (same_word (to_bits binary32 x) (to_bits binary32 y) (h 2 (omega arith)) (h 3 (omega arith)) (h 4 (omega arith)) (h 5 (omega arith))))

-- ---- two calls

module _ (rec rec' : List ℕ) (j : ℕ) (o : OwnPriors rec rec' j) (known : nsym (burst_of rec) ≤ 1023) (out old out' old' : List ℕ)
    (e : out ≡ answer_bytes rec ++ old) (e' : out' ≡ answer_bytes rec' ++ old') (same : (t : ℕ) → t < 6 → get_or out (0 + t) 0 ≡ get_or out' (0 + t) 0) where
  abbrev b : Burst
  b = burst_of rec

  abbrev b' : Burst
  b' = burst_of rec'

  abbrev p : List Float
  p = prior_of rec

  abbrev q : List Float
  q = prior_of rec'

  one_burst : b ≡ b'
  one_burst = same_burst b b' o.shared

  one_model : model b p ≡ model b' q
  one_model =
      model_same b b' p q
      (λ t h.
      let n : t < 10 = omega arith in
      let z : 0 + t ≡ t = omega arith in
      sym (report_at rec out old e t n) ∙ ((rw z at (same t h)) ∙ report_at rec' out' old' e' t n))

  cell : SameCell b j (channel_of b p) (channel_of b' q) (answer_of b p) (answer_of b' q)
  cell =
      subst (λ (x : Burst). model b p ≡ model x q → SameCell b j (channel_of b p) (channel_of x q) (answer_of b p) (answer_of x q)) one_burst
      (cell_same b o.unspread known j o.cell p q o.priors) one_model

  likelihood : (i t : ℕ) → i < nbits b → OwnBit b j i → t < 4 → get_or out (10 + 4 * i + t) 0 ≡ get_or out' (10 + 4 * i + t) 0
  likelihood i t h own h' =
      likelihood_at rec out old e i t h h'
      ∙ (ap (λ (x : Float). get_or (number x) t 0) (cell.likelihood i h own)
      ∙ sym (likelihood_at rec' out' old' e' i t (subst (λ (x : Burst). i < nbits x) one_burst h) h'))

  estimate : (channel old channel' old' : List ℕ) → channel ≡ channel_bytes rec ++ old → channel' ≡ channel_bytes rec' ++ old'
      → (t : ℕ) → t < 12 → get_or channel (12 * j + t) 0 ≡ get_or channel' (12 * j + t) 0
  estimate channel old channel' old' c c' t h =
      let n : 12 * j + t ≡ (3 * j + t / 4) * 4 + t % 4 = omega arith in
      let i : 3 * j + t / 4 < 3 * ncell b = omega (arith, o.cell) in
      rw n
      (channel_at rec channel old c (3 * j + t / 4) (t % 4) i (omega arith)
      ∙ (ap (λ (x : Float). get_or (number x) (t % 4) 0) (cell.estimate (t / 4) (omega arith))
      ∙ sym (channel_at rec' channel' old' c' (3 * j + t / 4) (t % 4) (subst (λ (x : Burst). 3 * j + t / 4 < 3 * ncell x) one_burst i) (omega arith))))

pub independence : Independence
unfolding Independence SameBytes SameLikelihoods
independence rec rec' j o out₀ out out₀' out' a a' same i h own t h' =
    likelihood rec rec' j o (few rec _ (sym a.result)) out _ out' _ (a.accepted refl) (a'.accepted refl) (λ u k. same u (omega arith)) i t h own (omega arith)

pub independence_both : IndependenceBoth
unfolding IndependenceBoth SameBytes SameLikelihoods
independence_both rec rec' j o out₀ out out₀' out' channel₀ channel channel₀' channel' a a' same =
    let w = a.accepted refl in
    let w' = a'.accepted refl in
    let known = few rec _ (sym a.result) in (
      λ i h own t h'. likelihood rec rec' j o known out _ out' _ w.0 w'.0 (λ u k. same u (omega arith)) i t h own (omega arith),
      λ t h. estimate rec rec' j o known out _ out' _ w.0 w'.0 (λ u k. same u (omega arith)) channel _ channel' _ w.1 w'.1 t (omega arith),
    )
