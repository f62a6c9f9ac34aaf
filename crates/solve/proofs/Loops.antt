-- What the check uses of a loop: nothing done yet, one turn more, none left, and a loop after a loop.
use Rattle.std.proofs.lemmas.List.{get_or-take}
use Rattle.seq.specs.Loop.Laws.{for_none, for_next, for_after, back_none, back_next, back_end}

pub ruleset loops = (for_none, for_next, for_after, back_none, back_next, back_end)

-- a list cut at the loop's end
pub ruleset cut = (get_or-take)
