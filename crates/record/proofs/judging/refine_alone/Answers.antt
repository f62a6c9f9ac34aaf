-- `refine_alone` meets its contract.
use Rattle.std.proofs.Common.{refl, rules}
use Rattle.refine.specs.Received.{burst_of}
use Rattle.record.proofs.Judged.{alone}
use Rattle.record.proofs.judging.refine_alone.Goals as goal

pub returns : goal.returns
returns c =
    let a = c.args in
    alone (burst_of a.b.now) a.prior.now _ a.answer.now _ a.channel.now _ _ _ _ _ c.requires (search rules) (search rules) refl refl c.refine.ensures
