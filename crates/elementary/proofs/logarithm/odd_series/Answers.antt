use Rattle.std.proofs.Common.{◌-◌, ◌∙◌, arith}
use Rattle.elementary.specs.Ln.{odd_turn}
use Rattle.elementary.proofs.Turns.{turn_at}
use Rattle.elementary.proofs.TurnBounds.{odd_turn_lem}
use Rattle.elementary.proofs.logarithm.odd_series.Goals as goal

pub loop-j-preserved : goal.loop-j-preserved
loop-j-preserved c =
    let l = c.loop-j in (
      turn_at 0 l.j (l.j - 1) (odd_turn c.args.w) l.s c.loop-j-test.true (omega arith) ∙ l.invariant.0,
      odd_turn_lem (l.j - 1) c.args.w l.s c.requires l.invariant.1,
    )
