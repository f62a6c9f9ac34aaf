use Rattle.burst.specs.Lines.{refused_of}
use Rattle.burst.proofs.Joined.{both}
use Rattle.burst.proofs.answer.put_refused.Goals as goal

pub returns : goal.returns
unfolding refused_of
returns c = both _ _ _ _ _ c.put_number.ensures.items c.put_word.ensures
