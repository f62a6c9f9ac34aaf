-- `Fields::plain` meets its contract: `NAN` is 7FC00000, which reads as the definition's `nan`.
use lib.Ieee.{of_bits}
use Rattle.wire.proofs.fields.Fields.plain.Goals as goal

pub returns : goal.returns
unfolding of_bits
returns c = c.settings.ensures
