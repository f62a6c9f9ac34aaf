-- `bursts::probe_estimates` meets its contract.
use Rattle.bursts.proofs.Loaded.{in_work, estimates_some}
use Rattle.bursts.proofs.estimates.probe_estimates.Goals as goal

pub estimates_in-requires : goal.estimates_in-requires
estimates_in-requires c =
    let q = c.probe_load-np in
    in_work q.ensures c.if-np-eq0.false c.setting_of.ensures q.auto.w q.auto.pf

pub returns : goal.returns
returns c = estimates_some c.probe_load-np.ensures c.if-np-eq0.false c.setting_of.ensures c.estimates_in.ensures
