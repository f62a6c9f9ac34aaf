use Rattle.std.specs.Prelude.{◌≡◌, ℕ, ◌+◌, ◌<◌, length}
use Rattle.solve.specs.Solve.{at, at2}
use Rattle.solve.proofs.rows.rows_of_column.Given as goal

abbrev pub invariant-loop-r : goal.invariant-loop-r
invariant-loop-r g l = (length l.x-items ≡ g.row.N) × ((x : ℕ) → x < l.r → at l.x-items x ≡ at2 l.a (l.i + x) l.j)
