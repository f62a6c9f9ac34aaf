use Rattle.std.proofs.Common.{append_assoc}
use Rattle.burst.specs.Lines.{heading_of}
use Rattle.burst.proofs.answer.put_heading.Goals as goal

pub returns-clause-items : goal.returns-clause-items
unfolding heading_of
returns-clause-items c =
    rw (c.put_word-2.ensures, c.put_number.ensures.items, c.put_hex.ensures.items, c.shown.ensures, c.put_word.ensures, c.put_model.ensures.items) (simp append_assoc)
