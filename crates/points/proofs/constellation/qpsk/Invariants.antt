use mathlib.Core.Path.{◌≡◌}
use Rattle.seq.specs.Loop.{for}
use Rattle.points.specs.Table.{blank}
use Rattle.points.specs.Constellation.{qpsk_turn}
use Rattle.points.proofs.constellation.qpsk.Given as goal

abbrev pub invariant-loop-label : goal.invariant-loop-label
invariant-loop-label l = l.pts ≡ for 0 l.label qpsk_turn blank
