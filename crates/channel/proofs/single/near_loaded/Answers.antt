-- `near_loaded` meets its contract.
use Rattle.std.proofs.Common.{arith}
use Rattle.channel.proofs.Asking.{loaded_in, near_in}
use Rattle.channel.proofs.single.near_loaded.Goals as goal

pub of_lists-pilots-requires : goal.of_lists-pilots-requires
of_lists-pilots-requires c =
    let k = c.requires.1 in
    rw c.places_of-n.ensures (k.few, k.in_wu, omega (arith, k.few, k.in_wf))

pub near_records-requires : goal.near_records-requires
near_records-requires c =
    let x = c.args in
    let l = loaded_in x.p x.np x.wf.now x.wu.now _ c.places_of-n.ensures c.requires.1 _ c.of_lists-pilots.ensures c.requires.0 in
    (l.0, l.1, c.requires.0.width, omega (arith, c.requires.2, c.requires.0.ng))

pub returns : goal.returns
returns c =
    let x = c.args in
    near_in x.p x.np x.wf.now x.wu.now _ c.places_of-n.ensures c.requires.1 _ c.of_lists-pilots.ensures x.g _ c.near_records.ensures
