use Rattle.std.proofs.Common.{append_assoc}
use Rattle.burst.specs.Lines.{model_of}
use Rattle.burst.proofs.answer.put_model.Goals as goal

pub returns-clause-items : goal.returns-clause-items
unfolding model_of
returns-clause-items c =
    rw (c.put_number-3.ensures.items, c.put_number-2.ensures.items, c.put_number.ensures.items, c.from.ensures, c.from-2.ensures) (simp append_assoc)
