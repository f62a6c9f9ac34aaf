-- What is known of a record that no row turns away. Assumes nothing.
use Prim.Native.Nat.{ℕ, zero, suc, ◌≤◌}
use mathlib.Core.Path.{◌≡◌, refl}
use mathlib.Core.Bool.{Bool, cond}
use mathlib.Core.List.{List}
use native.Mathlib.Omega.{arith}
use lib.Dec.{eqb, eqb-suc-zero}
use Rattle.refine.specs.Refine.{nsym}
use Rattle.table.specs.Refusals.{refusal_of}
use Rattle.table.specs.Table.{rows}
use Rattle.table.proofs.Passing.{counted}
use Rattle.table.proofs.Exact.{exact}
use Rattle.wire.specs.Record.{burst_of, prior_of}
use Rattle.wire.specs.Shape.{shape_refusal}
use Rattle.record.specs.Refusals.{refusal_in}

-- no number of either is left
neither : (y x : ℕ) → cond (eqb y 0) x y ≡ 0 → (y ≡ 0) × (x ≡ 0)
neither zero x e = (refl, e)
neither (suc y) x e = let z : suc y ≡ 0 = rw (eqb-suc-zero y) at e in absurd (omega arith)

module _ (rec : List ℕ) (room : Bool) (e : refusal_in rec room ≡ 0) where
  pub no_shape : shape_refusal rec ≡ 0
  unfolding refusal_in
  no_shape = (neither (shape_refusal rec) (refusal_of (burst_of rec) (prior_of rec) room) e).0

  pub no_numbers : refusal_of (burst_of rec) (prior_of rec) room ≡ 0
  unfolding refusal_in
  no_numbers = (neither (shape_refusal rec) (refusal_of (burst_of rec) (prior_of rec) room) e).1

  pub few : nsym (burst_of rec) ≤ 1023
  unfolding rows
  few = (counted (burst_of rec).settings ((exact.none (burst_of rec) (prior_of rec) room).0 no_numbers 2)).most
