-- `refine` meets its contract.
use mathlib.Core.Path.{sym}
use Rattle.table.proofs.Passing.{accepted_fits}
use Rattle.phy.proofs.refinement.refine.Goals as goal

pub refine-r-requires : goal.refine-r-requires
refine-r-requires c = accepted_fits _ _ _ _ _ _ (sym c.in_ok-verdict.ensures)
