use Rattle.std.specs.Prelude.{◌≡◌, ℕ, ◌+◌, ◌<◌}
use Rattle.seq.specs.Loop.{for}
use Rattle.solve.specs.Solve.{at, at2, minus_rows}
use Rattle.solve.proofs.rows.reduce.Given as goal

abbrev pub invariant-loop-p : goal.invariant-loop-p
invariant-loop-p g l = (r : ℕ) → r < g.row.N → at l.s r ≡ for 0 l.p (minus_rows l.a (l.i + r) l.j) (at2 l.a (l.i + r) l.j)
