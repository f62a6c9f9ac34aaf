-- `estimate_loaded` meets its contract.
use Rattle.std.proofs.Common.{◌∙◌}
use Rattle.channel.proofs.Asking.{askable, estimated}
use Rattle.channel.proofs.single.estimate_loaded.Goals as goal

pub estimate-requires : goal.estimate-requires
estimate-requires c =
    let x = c.args in
    rw (c.as_slice.ensures.value, c.near_loaded-near.ensures) (askable x.p x.np x.wf.now x.wu.now x.c x.g c.requires.0 c.requires.1 c.requires.2 c.requires.3)

pub returns : goal.returns
returns c =
    let x = c.args in
    estimated x.p x.np x.wf.now x.wu.now x.c x.g c.requires.0 c.requires.1 c.requires.2 c.requires.3 _ (c.as_slice.ensures.value ∙ c.near_loaded-near.ensures) c.estimate.ensures
