use mathlib.Core.Path.{◌≡◌}
use Rattle.seq.specs.Loop.{for}
use Rattle.soft.specs.Soft.{point_turn, nothing}
use Rattle.soft.proofs.moments.soft_point.Given as goal

abbrev pub invariant-loop-k : goal.invariant-loop-k
invariant-loop-k l = l.s ≡ for 0 l.k (point_turn l.llr l.pts.pts l.pts.bps) nothing
