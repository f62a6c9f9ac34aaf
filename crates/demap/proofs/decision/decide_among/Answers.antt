-- `decide_among` begins at an infinite distance.
use lib.Ieee.{of_bits}
use Rattle.seq.specs.Loop.Laws.{for_none}
use Rattle.demap.specs.Decide.{farthest}
use Rattle.demap.proofs.decision.decide_among.Goals as goal

pub loop-k-init : goal.loop-k-init
unfolding of_bits
loop-k-init c = for_none _ 0 farthest
