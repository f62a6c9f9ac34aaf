use Rattle.std.proofs.Common.{◌≡◌, ◌^◌, ◌≤◌}
use Rattle.elementary.specs.FixedPoint.{turns}
use Rattle.elementary.specs.Ln.{odd_turn, odd_sum}
use Rattle.elementary.proofs.logarithm.odd_series.Given as goal

abbrev pub invariant-loop-j : goal.invariant-loop-j
invariant-loop-j l = (turns 0 l.j (odd_turn l.w) l.s ≡ odd_sum l.w) × (l.s ≤ 2 ^ 33)
