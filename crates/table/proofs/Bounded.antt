-- How large the lists of a burst with an accepted number of symbols can be. Assumes nothing.
use Prim.Native.Nat.{ℕ, zero, suc, ◌≤◌}
use native.Mathlib.Nat.{mul-le-mul}
use native.Mathlib.Omega.{arith}
use Rattle.layout.proofs.Bounds.{bounds}
use Rattle.points.specs.Constellation.{bps_of}
use Rattle.refine.specs.declared.settings.Settings.{Settings}
use Rattle.table.specs.Sizes.{Counted, grid_cells, ncell_of, nbits_of}

bps_bounds : (code : ℕ) → (2 ≤ bps_of code) × (bps_of code ≤ 6)
bps_bounds zero = (omega arith, omega arith)
bps_bounds (suc zero) = (omega arith, omega arith)
bps_bounds (suc (suc zero)) = (omega arith, omega arith)
bps_bounds (suc (suc (suc code))) = (omega arith, omega arith)

pub record Small (s : Settings) : Type 0 where
  pub grid : grid_cells s ≤ 118156
  pub cells : ncell_of s ≤ 101277
  pub bits : nbits_of s ≤ 607662

pub small : (s : Settings) → Counted s → Small s
small s n =
    let k = bps_bounds s.constellation in
    let b = bounds.burst s.layout s.sparse s.nsym (bps_of s.constellation) n.some n.most k.0 k.1 in
    record {
      grid = mul-le-mul b.ng_high (bounds.layout s.layout s.sparse).nc_high;
      cells = b.ncell_high;
      bits = b.nbits_high;
    }
