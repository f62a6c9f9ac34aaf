-- `mse_row` meets its contract.
use Rattle.seq.specs.Loop.Laws.{for_none, for_step, for_end}
use Rattle.est.specs.Weights.{plus_term, mse_row}
use Rattle.std.proofs.Common.{arith, get_or-take, length-take-le}
use Rattle.est.proofs.sums.mse_row.Goals as goal

pub loop-j-init : goal.loop-j-init
loop-j-init c = for_none _ _ _

pub loop-j-preserved : goal.loop-j-preserved
unfolding plus_term
loop-j-preserved c =
    let s = c.args in
    let h = length-take-le s.k s.w.now (omega arith) in
    for_step _ _ _ _ _ _ (omega arith) c.loop-j.invariant (rw (c.get.ensures, get_or-take s.k s.w.now c.loop-j.j _ (omega (arith, h, c.loop-j-test.true))))

pub returns : goal.returns
unfolding mse_row
returns c =
    let s = c.args in
    let h = length-take-le s.k s.w.now (omega arith) in
    for_end _ _ _ _ _ _ (omega (arith, h)) (omega (arith, h)) c.loop-j.invariant
