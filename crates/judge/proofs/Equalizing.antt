-- A spread symbol: what the equaliser is lent may be longer, its parts depend on the row's estimates alone, and so do
-- the likelihoods. Assumes nothing.
use Prim.Native.Nat.{ℕ, ◌+◌, ◌*◌, ◌<◌}
use mathlib.Core.Path.{◌≡◌, ap, ap₂}
use mathlib.Core.List.{List, ◌++◌}
use native.Mathlib.Nat.{zero-mul}
use native.Mathlib.Omega.{arith}
use lib.ListN.{length, get_or, drop, get_or-append}
use lib.Ieee.{Float, nan}
use Rattle.seq.specs.Cat.{cat}
use Rattle.seq.specs.Cat.Laws.{cat-same}
use Rattle.seq.specs.Tab.Laws.{length_tab, tab-same}
use Rattle.ieee.specs.Num.{◌⊞◌, ◌⊠◌}
use Rattle.dsp.specs.Arithmetic.{complex}
use Rattle.spread.specs.Flat.{complex_at, flat}
use Rattle.spread.specs.Spreader.{twiddles_of}
use Rattle.spread.proofs.Pairs.{length_pairs}
use Rattle.load.specs.declared.found.Source.{Source}
use Rattle.est.specs.declared.combine.Estimate.{Estimate}
use Rattle.expect.specs.Expect.{mean_at, row_means, row_variance}
use Rattle.equalize.specs.declared.filter.Equalized.{Equalized}
use Rattle.equalize.specs.Answer.{Answer, Equalizes}
use Rattle.equalize.specs.Sic.{sic_of}
use Rattle.equalize.specs.Laws.{Alike, Same}
use Rattle.equalize.proofs.Stages.{at_front}
use Rattle.equalize.proofs.SicLaws.{sic_laws}
use Rattle.judge.specs.Cells.{sample_of, estimate_in}
use Rattle.judge.specs.Judge.{ya, ha, va, equalized, answer_of, despread}

-- ---- lists that hold more than is read

same_front : (m : ℕ) (xs r : List Float) → length xs ≡ m → Same m (xs ++ r) xs
same_front m xs r h j b = get_or-append xs r nan j (omega arith)

length_ya : (s : Source) (grid : List Float) (t : ℕ) → length (ya s grid t) ≡ 2 * s.dc
unfolding ya
length_ya s grid t = length_pairs (λ j. sample_of s grid (t * s.dc + j)) s.dc

length_ha : (dc : ℕ) (row : ℕ → Estimate) → length (ha dc row) ≡ 2 * dc
unfolding ha
length_ha dc row = length_pairs (λ j. (row j).h) dc

length_va : (dc : ℕ) (gain : Float) (cells : List Float) (row : ℕ → Estimate) (t : ℕ) → length (va dc gain cells row t) ≡ dc
unfolding va
length_va dc gain cells row t = length_tab (λ j. get_or cells (t * dc + j) nan ⊞ (row j).mse ⊠ (gain ⊠ gain)) dc

length_means : (dc : ℕ) (soft : List Float) (t : ℕ) → length (row_means dc soft t) ≡ 2 * dc
unfolding row_means
length_means dc soft t = length_pairs (λ j. mean_at soft (t * dc + j)) dc

-- a row's estimates, read as the means of three numbers a cell
pub channels_are : (dc : ℕ) (row : List Float) → row_means dc row 0 ≡ ha dc (estimate_in row)
unfolding row_means ha
channels_are dc row = cat-same dc _ _ (λ j h. let e : 0 * dc + j ≡ j = omega (arith, zero-mul dc) in ap (λ (k : ℕ). flat (mean_at row k)) e)

module _ (s : Source) (gain : Float) (soft grid cells : List Float) (row : ℕ → Estimate) (t : ℕ) where
  pub length_equalized : length (equalized s gain soft grid cells row t).z ≡ 2 * s.dc
  unfolding equalized
  length_equalized = sic_laws.count s.dc _ _ _ _ gain _ _

  pub equalized_by : (tw y h v xm : List Float) (vx : Float) (ry rh rv rx : List Float) → tw ≡ twiddles_of s.dc → y ≡ ya s grid t ++ ry → h ≡ ha s.dc row ++ rh
      → v ≡ va s.dc gain cells row t ++ rv → xm ≡ row_means s.dc soft t ++ rx → vx ≡ row_variance s.dc soft t
      → sic_of s.dc tw y h v gain xm vx ≡ equalized s gain soft grid cells row t
  unfolding equalized
  equalized_by tw y h v xm vx ry rh rv rx et ey eh ev ex ex' =
      rw (et, ey, eh, ev, ex, ex')
      (sic_laws.reads s.dc (twiddles_of s.dc) gain (row_variance s.dc soft t) _ (ya s grid t) _ (ha s.dc row) _ (va s.dc gain cells row t) _ (row_means s.dc soft t)
      (at_front s.dc (ya s grid t) ry (length_ya s grid t)) (at_front s.dc (ha s.dc row) rh (length_ha s.dc row))
      (same_front s.dc (va s.dc gain cells row t) rv (length_va s.dc gain cells row t)) (at_front s.dc (row_means s.dc soft t) rx (length_means s.dc soft t)))

  -- by the estimates of the symbol's own cells
  pub equalized_same : (row' : ℕ → Estimate) → ((j : ℕ) → j < s.dc → row j ≡ row' j) → equalized s gain soft grid cells row t ≡ equalized s gain soft grid cells row' t
  unfolding equalized ha va
  equalized_same row' same =
      let eh = cat-same s.dc (λ j. flat (row j).h) (λ j. flat (row' j).h) (λ j b. ap (λ (e : Estimate). flat e.h) (same j b)) in
      let ev = tab-same s.dc (λ j. get_or cells (t * s.dc + j) nan ⊞ (row j).mse ⊠ (gain ⊠ gain)) (λ j. get_or cells (t * s.dc + j) nan ⊞ (row' j).mse ⊠ (gain ⊠ gain))
      (λ j b. ap (λ (e : Estimate). get_or cells (t * s.dc + j) nan ⊞ e.mse ⊠ (gain ⊠ gain)) (same j b)) in
      rw (eh, ev)

-- what stands past the symbols in z is not read
pub despread_front : (dc : ℕ) (pts : List Float) (bps : ℕ) (a : Answer Equalized) (r : Equalized) (z₀ z : List Float) → Equalizes dc a r z₀ z → length a.z ≡ 2 * dc
    → cat dc (despread pts bps (answer_of r z)) ≡ cat dc (despread pts bps a)
unfolding despread
despread_front dc pts bps a r z₀ z e h =
    cat-same dc (despread pts bps (answer_of r z)) (despread pts bps a)
    (λ j b. let q : complex_at z j ≡ complex_at a.z j = rw e.symbols (at_front dc a.z (drop (2 * dc) z₀) h j b) in rw (q, e.result))
