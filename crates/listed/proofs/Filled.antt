-- The lent lists as the records are put into them, one after the other. Assumes nothing.
use Prim.Native.Nat.{ℕ, suc, ◌+◌, ◌*◌, ◌≤◌, ◌<◌}
use mathlib.Core.Path.{◌≡◌, refl, sym, ◌∙◌}
use mathlib.Core.List.{List}
use native.Mathlib.Omega.{arith}
use lib.ListN.{length, take, drop}
use lib.Ieee.{Float, nan}
use lib.Seq.{length-take-le, take-suc, take-length, get_or-take}
use Rattle.seq.specs.Tab.Laws.{tab_only}
use Rattle.load.specs.declared.pilot.Pilot.{Pilot}
use Rattle.load.specs.Pilots.{pilot_at}
use Rattle.load.specs.Work.{stored_w, stored_pf, Holds}
use Rattle.load.proofs.Storing.{one_pushes}
use Rattle.load.specs.Load.{nothing}
use Rattle.near.specs.Search.{pilot}
use Rattle.listed.specs.Listed.{Askable, records_in, InLists}
use Rattle.listed.specs.declared.single.Ask.{Ask}

-- the first i of ps are in lists of this many words and floats
pub record Filled (ps : List Pilot) (words floats i : ℕ) (w : List ℕ) (pf : List Float) : Type 0 where
  pub long_w : length w ≡ words
  pub long_pf : length pf ≡ floats
  pub holds : Holds (length ps) (take i ps) w pf

module _ (ps : List Pilot) where
  abbrev n : ℕ
  n = length ps

  pub begun : (w : List ℕ) (pf : List Float) → Filled ps (length w) (length pf) 0 w pf
  unfolding Holds
  begun w pf = record { long_w = refl; long_pf = refl; holds = λ i h. absurd (omega arith) }

  module _ (words floats : ℕ) (hw : 2 * n ≤ words) (hf : 3 * n ≤ floats) where
    pub one_more : (i : ℕ) (w : List ℕ) (pf : List Float) (w' : List ℕ) (pf' : List Float) {r : ℕ} → i < n → Filled ps words floats i w pf
        → (r ≡ i + 1) × (w' ≡ stored_w n i (pilot ps i) w) × (pf' ≡ stored_pf i (pilot ps i) pf) → length w' ≡ length w → length pf' ≡ length pf
        → Filled ps words floats (i + 1) w' pf'
    one_more i w pf w' pf' h f e lw lf =
        let p = one_pushes h (omega (arith, f.long_w)) (omega (arith, f.long_pf)) e in
        let next : i + 1 ≡ suc i = omega arith in
        rw next
        (record {
          long_w = lw ∙ f.long_w;
          long_pf = lf ∙ f.long_pf;
          holds = rw (take-suc ps i nothing h) (p.holds (take i ps) (length-take-le i ps (omega arith)) f.holds);
        })

  pub all_in : (w : List ℕ) (pf : List Float) (words floats : ℕ) → Filled ps words floats n w pf → records_in n w pf ≡ ps
  unfolding Holds
  all_in w pf words floats f =
      let here : (i : ℕ) → i < n → pilot_at w (drop n w) pf i ≡ pilot ps i = rw (take-length ps) at f.holds in
      sym
      (tab_only (pilot_at (take n w) (take n (drop n w)) (take (3 * n) pf)) n nothing ps refl
      (λ i h.
      sym
      (rw (
        get_or-take n w i 0 h,
        get_or-take n (drop n w) i 0 h,
        get_or-take (3 * n) pf (3 * i) nan (omega arith),
        get_or-take (3 * n) pf (3 * i + 1) nan (omega arith),
        get_or-take (3 * n) pf (3 * i + 2) nan (omega arith),
      )
      (here i h))))

-- so what may be asked of the records may be asked of the lists
pub asked_in : (a : Ask) (ps : List Pilot) (words floats : ℕ) → Askable a ps words floats → (w : List ℕ) (pf : List Float) → Filled ps words floats (length ps) w pf → InLists a (length ps) w pf
asked_in a ps words floats k w pf f = record {
  may = k.may;
  ordered = rw (all_in ps w pf words floats f) k.ordered;
  in_w = omega (arith, f.long_w, k.in_w);
  in_pf = omega (arith, f.long_pf, k.in_pf);
}
