-- `refine` meets its contract.
use Prim.Native.Nat.{◌*◌}
use mathlib.Core.Path.{ap}
use Rattle.refine.specs.Received.{burst_of}
use Rattle.refine.proofs.Ready.{exact_fit}
use Rattle.refine.proofs.Joined.{refined}
use Rattle.refine.proofs.whole.refine.Goals as goal

pub refine_exact-requires : goal.refine_exact-requires
refine_exact-requires c =
    let a = c.args in
    exact_fit (burst_of a.b.now) a.answer.now a.channel.now a.wf.now a.wu.now c.requires _ _ c.nbits-n.ensures (ap (λ x. 3 * x) c.ncell-c.ensures.0)

pub returns : goal.returns
returns c =
    let k = c.refine_exact in
    let a = c.args in
    refined (burst_of a.b.now) a.prior.now _ a.answer.now _ a.channel.now _ _ _
    c.nbits-n.ensures (ap (λ x. 3 * x) c.ncell-c.ensures.0) k.ensures
