use Rattle.load.specs.Pilots.{listed}
use Rattle.std.proofs.Common.{◌≡◌, ◌-◌}
use Rattle.ieee.specs.Num.{zero64}
use Rattle.model.specs.Score.{stride_of, triple, turn}
use Rattle.model.proofs.Strides.{Stepped}
use Rattle.model.proofs.trial.sum_pilots.Given as goal

abbrev pub invariant-loop-i : goal.invariant-loop-i
invariant-loop-i l =
    (l.i-step ≡ stride_of l.np)
    × Stepped l.np (turn l.e.window l.e.p_h (listed l.e.pilots) l.e.pilots.start.now l.e.scales l.e.rf.now l.e.rt.now) (triple zero64 zero64 zero64) l.i l.t

abbrev pub decreases-loop-i : goal.decreases-loop-i
decreases-loop-i l = l.np - l.i
