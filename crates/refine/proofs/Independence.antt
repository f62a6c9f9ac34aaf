-- The theorem: a cell's estimate is made of the other cells' pilots, and its likelihoods of its estimate, its sample
-- and its variance. Assumes nothing.
use Prim.Native.Nat.{ℕ, suc, ◌+◌, ◌-◌, ◌*◌, ◌≤◌, ◌<◌}
use mathlib.Core.Path.{◌≡◌, refl, sym, ap, ap₂, ◌∙◌}
use mathlib.Core.Bool.{Bool, false, cond}
use mathlib.Core.List.{List, ◌++◌}
use native.Mathlib.Nat.{suc-mul}
use native.Mathlib.Omega.{arith}
use lib.ListN.{length, get_or, drop, get_or-append}
use lib.Ieee.{Float, nan}
use Rattle.seq.specs.Cat.{cat}
use Rattle.seq.specs.Cat.Laws.{length_cat, get_d_cat, cat-same}
use Rattle.seq.specs.Tab.Laws.{length_tab}
use Rattle.bits.specs.Mix.{signed}
use Rattle.bits.specs.Slots.{slot_of, bit_of}
use Rattle.bits.proofs.Laws.{length_bit_order, bit_order_at}
use Rattle.layout.specs.Maps.{map_of}
use Rattle.load.specs.Fit.{ncell as ncell_of}
use Rattle.est.specs.declared.combine.Estimate.{Estimate}
use Rattle.model.specs.Select.{model as triple}
use Rattle.model.specs.declared.select.Model.{Model}
use Rattle.demap.specs.Demap.{likelihoods}
use Rattle.judge.specs.Cells.{symbol_of, carrier_of, sample_of, numbers_of}
use Rattle.judge.specs.Judge.{demapped, judged}
use Rattle.refine.specs.declared.whole.Refined.{Refined}
use Rattle.refine.specs.Refine.{Burst, layout, nsym, ng, bps, unit, ncell, nbits, source, expected, found, model, estimate, channel_of, slot_likelihoods, answer_of, refined_of, Refines}
use Rattle.refine.specs.Independence.{OwnBit, SameBut, SameCell, Independence}
use Rattle.refine.proofs.Blanked.{blank_same}
use Rattle.refine.proofs.OwnPriors.{expected_else}
use Rattle.refine.proofs.Elsewhere.{Same, found_else}
use Rattle.refine.proofs.WithoutOwn.{others, made_of, made_of_others}

pub same_model : (m m' : Model) → m.fd ≡ m'.fd → m.tm ≡ m'.tm → m.scale ≡ m'.scale → m ≡ m'
same_model m m' e e' e'' =
    let parts : triple m.fd m.tm m.scale ≡ triple m'.fd m'.tm m'.scale = rw (e, e', e'') in
    parts

second : {A : Type 0} (t : Bool) (x y : A) → t ≡ false → cond t x y ≡ y
second t x y e = rw e

-- the new numbers stand in front of the old
in_front : (new old l : List Float) (n i : ℕ) → l ≡ new ++ drop n old → i < length new → get_or l i nan ≡ get_or new i nan
in_front new old l n i e h = rw e (get_or-append new (drop n old) nan i h)

module _ (b : Burst) (off : b.settings.spread ≡ false) where
  -- ---- where the numbers of a cell stand

  channel_at : (p : List Float) (j t : ℕ) → j < ncell b → t < 3 → get_or (channel_of b p) (3 * j + t) nan ≡ get_or (numbers_of (estimate b p j)) t nan
  unfolding channel_of
  channel_at p j t h h' =
      let e : 3 * j + t ≡ j * 3 + t = omega arith in
      rw e (get_d_cat 3 (λ k. numbers_of (estimate b p k)) nan (λ k. refl) (ncell b) j t h h')

  -- est::demap at cell k, with estimate x
  abbrev likelihoods_at : ℕ → Estimate → List Float
  likelihoods_at k x = likelihoods (record { y = sample_of (source b) b.grid k; h = x.h; mse = x.mse; sigma2 = get_or b.cells k nan }) (unit b) (bps b)

  slots_are : (p : List Float) → slot_likelihoods b p ≡ cat (ncell b) (λ k. likelihoods_at k (estimate b p k))
  unfolding slot_likelihoods
  slots_are p = cat-same (ncell b) _ (λ k. likelihoods_at k (estimate b p k)) (λ k h. unfold judged demapped in second _ _ _ off)

  long : (k : ℕ) (x : Estimate) → length (likelihoods_at k x) ≡ bps b
  unfolding likelihoods
  long k x = length_tab _ (bps b)

  answer_at : (p : List Float) (j i : ℕ) → j < ncell b → i < nbits b → OwnBit b j i
      → get_or (answer_of b p) i nan ≡ signed i (get_or (likelihoods_at j (estimate b p j)) (slot_of (nbits b) i - j * bps b) nan)
  unfolding answer_of bit_of
  answer_at p j i h h' o =
      let s = slot_of (nbits b) i in
      let e : s ≡ j * bps b + (s - j * bps b) = omega (arith, o.from) in
      let n : j + 1 ≡ suc j = omega arith in
      let u : s < suc j * bps b = rw n at o.upto in
      bit_order_at (nbits b) (slot_likelihoods b p) i nan h'
      ∙ ap (signed i)
      (ap₂ (λ (l : List Float) (k : ℕ). get_or l k nan) (slots_are p) e
      ∙ get_d_cat (bps b) (λ k. likelihoods_at k (estimate b p k)) nan (λ k. long k (estimate b p k)) (ncell b) j (s - j * bps b) h (omega (arith, o.from, u, suc-mul j (bps b))))

  -- ---- two lists of priors that agree but at the bits of cell j

  module _ (few : nsym b ≤ 1023) (j : ℕ) (hj : j < ncell b) (p q : List Float) (same : SameBut b j p q) where
    expected_same : (k : ℕ) → k < ncell_of (source b) → (k ≡ j → ⊥) → Same (expected b p) (expected b q) k
    unfolding map_of
    expected_same k h d =
        let n : ng b - (source b).map.hdr_end ≡ nsym b = omega arith in
        expected_else b few j hj p q same off k (rw n at h) d

    others_same : others b j p ≡ others b j q
    unfolding found
    others_same =
        blank_same (layout b).nc b.grid (found b p) (found b q) (carrier_of (source b) j) (symbol_of (source b) j) (ng b)
        (λ k i h d. found_else (source b) b.sigma b.cells (expected b p) (expected b q) j expected_same k i h d)

    estimate_same : model b p ≡ model b q → estimate b p j ≡ estimate b q j
    unfolding estimate
    estimate_same e =
        made_of_others b j few hj p (model b p) ∙ (ap₂ (made_of b j) e others_same ∙ sym (made_of_others b j few hj q (model b q)))

    pub cell_same : model b p ≡ model b q → SameCell b j (channel_of b p) (channel_of b q) (answer_of b p) (answer_of b q)
    cell_same e =
        let x = estimate_same e in
        record {
          estimate = λ t h. rw (channel_at p j t hj h, channel_at q j t hj h) (ap (λ (y : Estimate). get_or (numbers_of y) t nan) x);
          likelihood = λ i h o. rw (answer_at p j i hj h o, answer_at q j i hj h o) (ap (λ (y : Estimate). signed i (get_or (likelihoods_at j y) (slot_of (nbits b) i - j * bps b) nan)) x);
        }

-- what a call leaves in the lists that it was lent
module _ {b : Burst} {p : List Float} {r : Refined} {answer₀ answer₁ channel₀ channel₁ : List Float} (c : Refines b p r answer₀ answer₁ channel₀ channel₁) where
  call_channel : (j t : ℕ) → j < ncell b → t < 3 → get_or channel₁ (3 * j + t) nan ≡ get_or (channel_of b p) (3 * j + t) nan
  call_channel j t h h' =
      in_front (channel_of b p) channel₀ channel₁ (3 * ncell b) (3 * j + t) c.channel
      (unfold channel_of in rw (length_cat 3 (λ k. numbers_of (estimate b p k)) (λ k. refl) (ncell b)) (omega arith))

  call_answer : (i : ℕ) → i < nbits b → get_or answer₁ i nan ≡ get_or (answer_of b p) i nan
  call_answer i h =
      in_front (answer_of b p) answer₀ answer₁ (nbits b) i c.answer (unfold answer_of in rw (length_bit_order (nbits b) (slot_likelihoods b p)) h)

  call_model : r.model ≡ model b p
  unfolding refined_of
  call_model = rw c.result refl

pub independence : Independence
unfolding Independence
independence b few off j hj p q same r r' answer₀ answer₁ channel₀ channel₁ answer₀' answer₁' channel₀' channel₁' c c' report =
    let m = call_model c in
    let m' = call_model c' in
    let e = sym m ∙ (same_model r.model r'.model report.fd report.tm report.scale ∙ m') in
    let s = cell_same b off few j hj p q same e in
    record {
      estimate = λ t h. call_channel c j t hj h ∙ (s.estimate t h ∙ sym (call_channel c' j t hj h));
      likelihood = λ i h o. call_answer c i h ∙ (s.likelihood i h o ∙ sym (call_answer c' i h));
    }
