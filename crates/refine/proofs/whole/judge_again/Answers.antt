-- `judge_again` meets its contract.
use Rattle.refine.specs.Received.{burst_of}
use Rattle.refine.proofs.Ready.{ready}
use Rattle.refine.proofs.Joined.{may_judge_loaded, rejudged_by}
use Rattle.refine.proofs.whole.judge_again.Goals as goal

pub listen-np-requires : goal.listen-np-requires
listen-np-requires c =
    let a = c.args in
    rw c.plan_of.ensures (ready (burst_of a.b.now) a.answer.now a.channel.now a.wf.now a.wu.now c.requires)

pub judge_loaded-requires : goal.judge_loaded-requires
judge_loaded-requires c =
    let l = c.listen-np in
    let a = c.args in
    let q = may_judge_loaded (burst_of a.b.now) a.prior.now _ _ c.plan_of.ensures
    a.answer.now a.channel.now a.wf.now a.wu.now c.requires _ _ _ _ l.ensures _ l.auto.channel l.auto.answer l.auto.wf l.auto.wu in
    record { work = (q.0, q.1, q.3); symbols = q.2 }

pub returns : goal.returns
returns c =
    let l = c.listen-np in
    let a = c.args in
    rejudged_by (burst_of a.b.now) a.prior.now _ _ c.plan_of.ensures
    a.answer.now a.channel.now a.wf.now a.wu.now c.requires _ _ _ _ l.ensures _ _ _ _ c.unit_points-unit.ensures.table l.auto.answer l.auto.channel c.judge_loaded.ensures
