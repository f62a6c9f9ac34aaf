use Rattle.std.specs.Prelude.{◌≡◌, ◌+◌}
use Rattle.seq.specs.Loop.{for}
use Rattle.solve.specs.Solve.{below}
use Rattle.solve.proofs.rows.below.Given as goal

abbrev pub invariant-loop-r : goal.invariant-loop-r
invariant-loop-r g l = l.a ≡ for l.i (l.i + l.r) (below l.j l.d) l.initial.a
