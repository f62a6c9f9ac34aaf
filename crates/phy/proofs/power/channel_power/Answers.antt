-- `channel_power` meets its contract.
use mathlib.Core.Path.{sym}
use Rattle.phy.proofs.WorkOnly.{passed_fits}
use Rattle.phy.proofs.power.channel_power.Goals as goal

pub channel_power-power-requires : goal.channel_power-power-requires
channel_power-power-requires c = passed_fits _ _ _ _ (sym c.in_ok-work_verdict.ensures)
