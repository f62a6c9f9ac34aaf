-- The laws of a loop at its state, in one set. Assumes nothing.
use Rattle.seq.specs.Loop.Laws.{for_none, for_step, for_end}

pub ruleset loops = (for_none, for_step, for_end)
