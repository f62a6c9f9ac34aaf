-- `bursts::probe_models` meets its contract.
use Rattle.bursts.proofs.Loaded.{in_work, models_some}
use Rattle.bursts.proofs.models.probe_models.Goals as goal

pub select-requires : goal.select-requires
select-requires c = let q = c.probe_load-np in in_work q.ensures c.if-np-eq0.false c.setting_of.ensures q.auto.w q.auto.pf

pub returns : goal.returns
returns c = let q = c.probe_load-np in models_some q.ensures c.if-np-eq0.false c.setting_of.ensures c.select.ensures
