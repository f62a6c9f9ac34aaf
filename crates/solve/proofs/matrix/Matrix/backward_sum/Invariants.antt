use Prim.Native.Nat.{◌+◌}
use mathlib.Core.Path.{◌≡◌}
use Rattle.seq.specs.Loop.{for}
use Rattle.solve.specs.Solve.{at, minus_backward}
use Rattle.solve.proofs.matrix.Matrix.backward_sum.Given as goal

abbrev pub invariant-loop-p : goal.invariant-loop-p
invariant-loop-p l = (l.s ≡ for (l.i + 1) l.p (minus_backward l.self.a l.w l.i) (at l.y l.i))
