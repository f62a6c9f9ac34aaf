-- `estimate` meets its contract.
use mathlib.Core.Path.{◌∙◌}
use Rattle.layout.specs.Maps.{map_of}
use Rattle.refine.specs.Received.{burst_of}
use Rattle.channel.proofs.Fitting.{agreed}
use Rattle.channel.proofs.Loading.{in_work, single_heard}
use Rattle.channel.proofs.whole.estimate.Goals as goal

pub estimate_loaded-requires : goal.estimate_loaded-requires
estimate_loaded-requires c =
    let h = c.hear-np in
    let a = c.args in
    let b = burst_of a.b.now in
    rw c.plan_of.ensures
    (agreed b a.wf.now a.wu.now c.requires.0, in_work b a.prior.now _ _ _ h.ensures a.wf.now a.wu.now c.requires.0 h.auto.wf h.auto.wu, unfold map_of in c.requires.1, c.requires.2)

pub returns : goal.returns
returns c =
    let a = c.args in
    let b = burst_of a.b.now in
    (rw c.plan_of.ensures at c.estimate_loaded.ensures) ∙ single_heard b a.prior.now _ _ _ c.hear-np.ensures a.c a.g
