use Rattle.std.specs.Prelude.{◌≡◌, ◌+◌, ◌*◌}
use Rattle.seq.specs.Loop.{for}
use Rattle.solve.specs.Solve.{below}
use Rattle.solve.proofs.factor.below_fours.Given as goal

abbrev pub invariant-loop-t : goal.invariant-loop-t
invariant-loop-t l = l.a ≡ for l.first (l.first + 4 * l.t) (below l.j l.d) l.initial.a
