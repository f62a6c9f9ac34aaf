use Rattle.seq.specs.Loop.{for}
use Rattle.est.specs.Weights.{plus_term}
use Rattle.std.proofs.Common.{◌≡◌}
use Rattle.est.proofs.sums.mse_row.Given as goal

abbrev pub invariant-loop-j : goal.invariant-loop-j
invariant-loop-j l = l.mse ≡ for 0 l.j (plus_term l.k l.a l.w l.rhs l.i) l.initial.mse
