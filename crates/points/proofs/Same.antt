-- Points of the same bits and the same table are the same. Assumes nothing.
use Prim.Native.Nat.{ℕ, ◌≤◌}
use mathlib.Core.Path.{◌≡◌, ap₂}
use mathlib.Core.List.{List}
use lib.Ieee.{Float}
use Rattle.std.proofs.Math.Bridge.{le_prop}
use Rattle.points.specs.declared.table.Points.{Points}

abbrev pub points_of_table : (bps : ℕ) → List Float → bps ≤ 6 → Points
points_of_table bps pts few = record { bps = bps; pts = pts; few = few }

pub same_table : (bps : ℕ) (pts pts' : List Float) (few few' : bps ≤ 6) → pts ≡ pts' → points_of_table bps pts few ≡ points_of_table bps pts' few'
same_table bps pts pts' few few' e = ap₂ (points_of_table bps) e (le_prop few few')
