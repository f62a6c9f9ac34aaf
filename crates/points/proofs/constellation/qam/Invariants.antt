use mathlib.Core.Path.{◌≡◌}
use Rattle.seq.specs.Loop.{for}
use Rattle.points.specs.Table.{blank}
use Rattle.points.specs.Constellation.{qam_row}
use Rattle.points.proofs.constellation.qam.Given as goal

abbrev pub invariant-loop-i : goal.invariant-loop-i
invariant-loop-i l = l.pts ≡ for 0 l.i (qam_row l.b) blank
