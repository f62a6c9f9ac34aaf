use Rattle.std.proofs.Common.{◌∙◌, arith}
use Rattle.elementary.specs.Exp.{exp_turn}
use Rattle.elementary.proofs.Turns.{turn_at}
use Rattle.elementary.proofs.TurnBounds.{exp_term}
use Rattle.elementary.proofs.exponential.horner.Goals as goal

pub loop-j-preserved : goal.loop-j-preserved
loop-j-preserved c =
    let l = c.loop-j in (
      turn_at 1 l.j l.j (exp_turn c.args.f) l.p c.loop-j-test.true (omega arith) ∙ l.invariant.0,
      (omega (arith, exp_term c.args.f l.p l.j l.invariant.1.1), omega arith),
    )
