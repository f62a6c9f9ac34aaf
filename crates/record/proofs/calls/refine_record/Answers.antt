-- `refine_record` meets its contract.
use Rattle.std.proofs.Common.{refl}
use Rattle.record.proofs.Answering.{answer_alone}
use Rattle.record.proofs.calls.refine_record.Goals as goal

pub returns : goal.returns
returns c = answer_alone _ _ _ _ _ _ refl c.refine_record_channel.ensures
