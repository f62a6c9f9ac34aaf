-- `refine_exact` meets its contract.
use mathlib.Core.Path.{◌∙◌}
use native.Mathlib.Omega.{arith}
use lib.Seq.{length-take-le}
use Rattle.refine.specs.Received.{burst_of}
use Rattle.refine.proofs.Ready.{room_left}
use Rattle.refine.proofs.Joined.{refined_exactly}
use Rattle.refine.proofs.whole.refine_exact.Goals as goal

pub to_bit_order-requires : goal.to_bit_order-requires
to_bit_order-requires c =
    let a = c.args in
    let j = c.judge_again-model in
    let r = room_left (burst_of a.b.now) a.answer.now a.channel.now a.wf.now a.wu.now c.requires in
    (length-take-le _ _ (omega (arith, r, j.auto.answer, j.auto.wf)), omega (arith, r, j.auto.answer), omega (arith, r, j.auto.answer))

pub spoilt-requires : goal.spoilt-requires
spoilt-requires c =
    let a = c.args in
    omega (arith, room_left (burst_of a.b.now) a.answer.now a.channel.now a.wf.now a.wu.now c.requires, c.to_bit_order.auto.answer, c.judge_again-model.auto.answer)

pub returns : goal.returns
returns c =
    let j = c.judge_again-model in
    let t = c.to_bit_order in
    let a = c.args in
    refined_exactly (burst_of a.b.now) a.prior.now _ _ _ _ _
    (j.auto.answer ∙ c.requires.whole_answer) (t.auto.answer ∙ (j.auto.answer ∙ c.requires.whole_answer)) j.ensures t.ensures c.spoilt.ensures
