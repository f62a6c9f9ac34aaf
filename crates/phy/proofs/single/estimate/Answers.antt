-- `estimate` meets its contract.
use mathlib.Core.Path.{sym}
use Rattle.phy.proofs.WorkOnly.{passed_fits}
use Rattle.phy.proofs.single.estimate.Goals as goal

pub estimate_in-requires : goal.estimate_in-requires
estimate_in-requires c = passed_fits _ _ _ _ (sym c.in_ok-work_verdict.ensures)
