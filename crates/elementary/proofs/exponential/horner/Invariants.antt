use Rattle.std.proofs.Common.{◌≡◌, ◌<◌, ◌≤◌}
use Rattle.elementary.specs.FixedPoint.{M, turns}
use Rattle.elementary.specs.Exp.{exp_turn, exp_sum}
use Rattle.elementary.proofs.exponential.horner.Given as goal

abbrev pub invariant-loop-j : goal.invariant-loop-j
invariant-loop-j l = (turns 1 l.j (exp_turn l.f) l.p ≡ exp_sum l.f) × ((0 < l.p) × (l.p ≤ M))
