use Rattle.std.proofs.Common.{◌≡◌, length}
use Rattle.seq.specs.Loop.{for}
use Rattle.dsp.specs.Arithmetic.{zeroᶜ}
use Rattle.est.specs.Columns.{reals, imaginaries}
use Rattle.est.specs.Weights.{turn}
use Rattle.est.proofs.Turns.{sums}
use Rattle.est.proofs.sums.sum_up.Given as goal

abbrev pub invariant-loop-i : goal.invariant-loop-i
invariant-loop-i l = (l.k ≡ length l.ps) × (sums l.h l.mse ≡ for 0 l.i (turn l.k l.a l.w l.rhs (reals l.ps) (imaginaries l.ps)) (sums zeroᶜ l.ph))
