use mathlib.Core.Path.{◌≡◌}
use Rattle.seq.specs.Loop.{for}
use Rattle.solve.specs.Solve.{column}
use Rattle.solve.proofs.matrix.Matrix.factorise.Given as goal

abbrev pub invariant-loop-j : goal.invariant-loop-j
invariant-loop-j l = (l.self.k ≡ l.initial.self.k) × (l.self.a ≡ for 0 l.j (column l.initial.self.k) l.initial.self.a)
