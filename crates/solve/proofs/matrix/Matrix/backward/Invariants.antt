use Rattle.std.specs.Prelude.{◌≡◌}
use Rattle.seq.specs.Loop.{back}
use Rattle.solve.specs.Solve.{zeros, backward_row}
use Rattle.solve.proofs.matrix.Matrix.backward.Given as goal

abbrev pub invariant-loop-i : goal.invariant-loop-i
invariant-loop-i l = back l.i (backward_row l.self.k l.self.a l.y) l.w ≡ back l.self.k (backward_row l.self.k l.self.a l.y) zeros
