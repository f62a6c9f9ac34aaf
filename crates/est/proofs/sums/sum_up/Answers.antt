-- `sum_up` meets its contract: each turn adds one pilot's part of the estimate and of its error.
use Rattle.std.proofs.Common.{refl, arith}
use Rattle.seq.specs.Loop.Laws.{for_none, for_step, for_end}
use Rattle.est.specs.Weights.{sums_of}
use Rattle.est.proofs.Columns.{gain_of}
use Rattle.est.proofs.Turns.{turned}
use Rattle.est.proofs.sums.sum_up.Goals as goal

pub loop-i-init : goal.loop-i-init
loop-i-init c = (refl, for_none _ _ _)

pub loop-i-preserved : goal.loop-i-preserved
loop-i-preserved c =
    let l = c.loop-i in
    (l.invariant.0, for_step _ _ _ _ _ _ (omega arith) l.invariant.1 (turned _ _ _ _ _ _ _ l.h l.mse _ _ _ _ _ (gain_of c.args.ps.now l.i c.loop-i-test.true) c.narrow.ensures c.scale.ensures c.add_assign.ensures.after c.mse_row-mse.ensures))

pub returns : goal.returns
unfolding sums_of
returns c = for_end _ _ _ _ _ _ (omega arith) (omega arith) c.loop-i.invariant.1
