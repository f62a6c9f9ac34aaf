use mathlib.Core.Path.{◌≡◌}
use Rattle.seq.specs.Loop.{for}
use Rattle.solve.specs.Solve.{at, minus_forward}
use Rattle.solve.proofs.substitute.forward_sum.Given as goal

abbrev pub invariant-loop-p : goal.invariant-loop-p
invariant-loop-p l = (l.s ≡ for 0 l.p (minus_forward l.a l.y l.i) (at l.b l.i))
