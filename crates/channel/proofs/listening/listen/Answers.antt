-- `listen` meets its contract: the pilots' part comes back at the front of the list.
use Prim.Native.Nat.{◌-◌, ◌*◌}
use mathlib.Core.Path.{◌≡◌}
use native.Mathlib.Omega.{arith}
use lib.ListN.{length}
use lib.Seq.{take_at}
use Rattle.std.proofs.lemmas.List.{length-take-le}
use Rattle.load.specs.Fit.{places}
use Rattle.channel.specs.Listening.{bit_length}
use Rattle.channel.proofs.Expecting.{expected_are}
use Rattle.channel.proofs.listening.listen.Goals as goal

pub returns : goal.returns
returns c =
    let a = c.args in
    let n = 3 * places a.b.now.plan.source in
    let long : length c.load_by.new.pilots ≡ n = omega (arith, c.load_by.auto.pilots, c.split_at_mut-pilots.ensures.front_len, c.places_of.ensures) in
    let back : length c.split_at_mut-expected.result.1.now ≡ length a.wf.now - n - a.b.now.plan.shape.nsym * a.b.now.plan.shape.dc * 3 = omega (arith, c.split_at_mut-expected.ensures.back_len, c.split_at_mut-pilots.ensures.back_len, c.places_of.ensures) in
    let count = length-take-le (bit_length a.b.now.plan) c.split_at_mut-expected.result.1.now (omega (arith, back, c.requires.in_wf)) in
    let expected = expected_are a.b.now.plan.shape a.b.now.unit.now.pts a.prior.now _ _ _ _ c.split_at_mut-expected.ensures.front_len count c.fill_slots.ensures c.expected.ensures in
    rw (take_at c.load_by.new.pilots _ n long) (rw expected at c.load_by.ensures)
