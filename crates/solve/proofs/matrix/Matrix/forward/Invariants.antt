use mathlib.Core.Path.{◌≡◌}
use Rattle.seq.specs.Loop.{for}
use Rattle.solve.specs.Solve.{forward_row}
use Rattle.solve.proofs.matrix.Matrix.forward.Given as goal

abbrev pub invariant-loop-i : goal.invariant-loop-i
invariant-loop-i l = (l.y ≡ for 0 l.i (forward_row l.self.a l.b) l.initial.y)
