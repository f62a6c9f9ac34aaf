-- `bits` meets its contract: those of the sizes found, and none where the record is refused.
use Rattle.std.proofs.Common.{◌∙◌}
use Rattle.wire.proofs.Rows.{bits_found}
use Rattle.wire.proofs.shape.bits.Goals as goal

pub returns-in_err-ok : goal.returns-in_err-ok
returns-in_err-ok c = c.from_residual.ensures ∙ (rw c.in_err-ok.was at (bits_found _ _ _ c.sizes_in.ensures.refused c.sizes_in.ensures.accepted c.ok.ensures.value))

pub returns : goal.returns
returns c = rw c.in_ok-ok.was at (bits_found _ _ _ c.sizes_in.ensures.refused c.sizes_in.ensures.accepted c.ok.ensures.value)
