-- What the check uses of a loop: over half of the labels, or writing a list from the front. Assumes nothing.
use Rattle.std.proofs.lemmas.List.{length-take, get_or-take}
use Rattle.seq.specs.Loop.Laws.{for_none, for_step, for_end}
use Rattle.seq.specs.Tab.Laws.{tab_none, tab_step, tab_end, tab_front}

pub ruleset loops = (for_none, for_step, for_end)

pub ruleset tabs = (tab_none, tab_step, tab_end)

pub ruleset fronts = (tab_none, tab_step, tab_front)

pub ruleset taken = (length-take, get_or-take)
