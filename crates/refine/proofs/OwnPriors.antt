-- A cell's own priors reach its own expected value only. Assumes nothing.
use Prim.Native.Nat.{ℕ, zero, suc, ◌+◌, ◌*◌, ◌≤◌, ◌<◌}
use mathlib.Core.Path.{◌≡◌, refl, ap}
use mathlib.Core.Bool.{false}
use mathlib.Core.List.{List}
use native.Mathlib.Nat.{suc-mul, mul-le-mul_right, zero-mul}
use native.Mathlib.Decide.{dec_lt}
use native.Mathlib.Omega.{arith}
use lib.ListN.{get_or, take, drop}
use lib.Ieee.{Float, nan}
use Rattle.seq.specs.Cat.Laws.{get_d_cat}
use Rattle.bits.proofs.Laws.{stretch_same}
use Rattle.layout.specs.Sizes.{BurstBounds}
use Rattle.layout.proofs.Bounds.{bounds}
use Rattle.points.proofs.Laws.{points_laws}
use Rattle.soft.specs.Soft.{soft_point}
use Rattle.expect.specs.declared.Shape.{Shape}
use Rattle.expect.specs.Expect.{cell_numbers, soft_at, soft_cells, expected_of}
use Rattle.refine.specs.Refine.{Burst, layout, nsym, bps, unit, ncell, nbits, shape, slots, expected}
use Rattle.refine.specs.Independence.{SameBut}

-- where there is a cell there is a symbol
some_symbol : (n d j : ℕ) → j < n * d → 1 ≤ n
some_symbol zero d j h = absurd (omega (arith, zero-mul d))
some_symbol (suc n) d j h = omega arith

pub burst_bounds : (b : Burst) → nsym b ≤ 1023 → (j : ℕ) → j < ncell b → BurstBounds (layout b) b.settings.sparse (nsym b) (bps b)
burst_bounds b few j h =
    bounds.burst b.settings.layout b.settings.sparse (nsym b) (bps b) (some_symbol (nsym b) _ j h) few (points_laws b.settings.constellation).fewest (points_laws b.settings.constellation).most

-- no slot of cell k is one of cell j's
apart : (w j k s : ℕ) → (k ≡ j → ⊥) → k * w ≤ s → s < k * w + w → j * w ≤ s → s < (j + 1) * w → ⊥
apart w j k s d u v u' v' = go (dec_lt k j)
  where
    go : Dec (k < j) → ⊥
    go (yes h) = omega (arith, mul-le-mul_right w h, suc-mul k w)
    go (no h) = omega (arith, mul-le-mul_right {m = j + 1} {n = k} w (omega arith))

-- an unspread burst is sent as its soft points
unspread : (s : Shape) (unit sl : List Float) → s.spread ≡ false → expected_of s unit sl ≡ soft_cells unit s.bps (s.nsym * s.dc) sl
unfolding expected_of
unspread s unit sl e = rw e

module _ (b : Burst) (few : nsym b ≤ 1023) (j : ℕ) (hj : j < ncell b) (p q : List Float) (same : SameBut b j p q) where
  stretch_else : (k : ℕ) → (k ≡ j → ⊥) → take (bps b) (drop (k * bps b) (slots b p)) ≡ take (bps b) (drop (k * bps b) (slots b q))
  unfolding slots SameBut
  stretch_else k d =
      let n = burst_bounds b few j hj in
      stretch_same (nbits b) (omega (arith, n.nbits_low)) n.nbits_high p q (k * bps b) (bps b)
      (λ i h low high. same i h (λ o. apart (bps b) j k _ d low high o.from o.upto))

  soft_else : (k : ℕ) → (k ≡ j → ⊥) → soft_at (unit b) (bps b) (slots b p) k ≡ soft_at (unit b) (bps b) (slots b q) k
  unfolding soft_at
  soft_else k d = ap (λ (l : List Float). let s = soft_point l (unit b) (bps b) in cell_numbers s.mean s.var) (stretch_else k d)

  -- number t of cell k
  pub expected_else : b.settings.spread ≡ false → (k : ℕ) → k < ncell b → (k ≡ j → ⊥) → (t : ℕ) → t < 3
      → get_or (expected b p) (3 * k + t) nan ≡ get_or (expected b q) (3 * k + t) nan
  expected_else off k h d t ht =
      let e : 3 * k + t ≡ k * 3 + t = omega arith in
      rw (e, at p, at q) (ap (λ (l : List Float). get_or l t nan) (soft_else k d))
    where
      at : (r : List Float) → get_or (expected b r) (k * 3 + t) nan ≡ get_or (soft_at (unit b) (bps b) (slots b r) k) t nan
      at r = unfold expected soft_cells in
          rw (unspread (shape b) (unit b) (slots b r) off) (get_d_cat 3 (soft_at (unit b) (bps b) (slots b r)) nan (λ i. unfold soft_at in refl) (ncell b) k t h ht)
