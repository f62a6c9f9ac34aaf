use Rattle.burst.specs.Lines.{line_of}
use Rattle.burst.proofs.Joined.{both}
use Rattle.burst.proofs.answer.put_line.Goals as goal

pub returns-clause-items : goal.returns-clause-items
unfolding line_of
returns-clause-items c = let digits = c.put_hex.ensures.items in both _ _ _ _ _ (rw c.shown.ensures at digits) c.put_word.ensures
