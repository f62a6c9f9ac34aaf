use mathlib.Core.Path.{◌≡◌}
use Rattle.seq.specs.Loop.{for}
use Rattle.points.specs.Constellation.{qam_turn}
use Rattle.points.proofs.constellation.qam_row.Given as goal

abbrev pub invariant-loop-q : goal.invariant-loop-q
invariant-loop-q l = l.pts ≡ for 0 l.q (qam_turn l.b l.i) l.initial.pts
