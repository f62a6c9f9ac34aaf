-- `channel_power` meets its contract.
use mathlib.Core.Path.{◌∙◌}
use native.Mathlib.Omega.{arith}
use Rattle.refine.specs.Received.{burst_of}
use Rattle.channel.proofs.Fitting.{room}
use Rattle.channel.proofs.Loading.{few, few_listed, power_heard}
use Rattle.channel.proofs.whole.channel_power.Goals as goal

pub places_of-requires : goal.places_of-requires
places_of-requires c =
    let a = c.args in
    let r = room (burst_of a.b.now) a.wf.now a.wu.now c.requires in
    rw c.plan_of.ensures r.small

pub of_lists-pilots-requires : goal.of_lists-pilots-requires
of_lists-pilots-requires c =
    let h = c.hear-np in
    let a = c.args in
    let b = burst_of a.b.now in
    let r = room b a.wf.now a.wu.now c.requires in
    let n = few b a.prior.now _ _ _ h.ensures in
    rw (c.places_of.ensures, c.plan_of.ensures) (n, omega (arith, r.in_wu, h.auto.wu), omega (arith, n, r.in_wf, h.auto.wf))

pub power-requires : goal.power-requires
power-requires c =
    let h = c.hear-np in
    let a = c.args in
    let b = burst_of a.b.now in
    let r = room b a.wf.now a.wu.now c.requires in
    let n = few b a.prior.now _ _ _ h.ensures in
    omega (arith, n, r.small, few_listed b a.prior.now _ _ _ h.ensures _ (rw c.plan_of.ensures at c.places_of.ensures) _ (rw c.plan_of.ensures at c.of_lists-pilots.ensures))

pub returns : goal.returns
returns c =
    let a = c.args in
    let b = burst_of a.b.now in
    c.power.ensures ∙ power_heard b a.prior.now _ _ _ c.hear-np.ensures _ (rw c.plan_of.ensures at c.places_of.ensures) _ (rw c.plan_of.ensures at c.of_lists-pilots.ensures)
