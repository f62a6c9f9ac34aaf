use mathlib.Core.Path.{◌≡◌}
use Rattle.seq.specs.Loop.{for}
use Rattle.solve.specs.Solve.{below}
use Rattle.solve.proofs.matrix.Matrix.below_rest.Given as goal

abbrev pub invariant-loop-i : goal.invariant-loop-i
invariant-loop-i l = (l.self.k ≡ l.initial.self.k) × (l.self.a ≡ for l.first l.i (below l.j l.d) l.initial.self.a)
