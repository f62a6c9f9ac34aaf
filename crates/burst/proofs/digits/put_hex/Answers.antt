use Rattle.std.proofs.Common.{append_assoc}
use Rattle.burst.specs.Digits.{hex8}
use Rattle.burst.proofs.digits.put_hex.Goals as goal

pub returns-clause-items : goal.returns-clause-items
unfolding hex8
returns-clause-items c =
    rw (
      c.put_word-4.ensures,
      c.put_word-3.ensures,
      c.put_word-2.ensures,
      c.put_word.ensures,
      c.pair.ensures,
      c.pair-2.ensures,
      c.pair-3.ensures,
      c.pair-4.ensures,
    )
    (simp append_assoc)
