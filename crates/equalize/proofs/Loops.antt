-- What the check uses of the loops over carriers. Assumes nothing.
use Rattle.seq.specs.Loop.Laws.{for_none, for_step, for_end}
use Rattle.spread.proofs.Pairs.{pairs_none, pairs_step, pairs_end}

-- a list written two numbers at a time
pub ruleset numbers = (pairs_none, pairs_step, pairs_end)

-- and sums beside it
pub ruleset loops = (for_none, for_step, for_end, pairs_none, pairs_step, pairs_end)
