-- `hear` meets its contract.
use Rattle.refine.specs.Received.{burst_of}
use Rattle.channel.proofs.Fitting.{room}
use Rattle.channel.proofs.Loading.{heard}
use Rattle.channel.proofs.hearing.hear.Goals as goal

pub listen-requires : goal.listen-requires
listen-requires c =
    let a = c.args in
    rw c.plan_of.ensures (room (burst_of a.b.now) a.wf.now a.wu.now c.requires)

pub returns : goal.returns
returns c =
    let a = c.args in
    heard a.b.now.settings a.b.now.grid.now a.b.now.sigma.now a.b.now.cells.now a.prior.now _ _ _ _ _ c.plan_of.ensures c.unit_points-unit.ensures.table c.listen.ensures
