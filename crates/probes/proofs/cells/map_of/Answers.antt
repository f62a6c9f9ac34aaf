-- `probes::map_of`: every layout fits.
use mathlib.Core.Path.{refl}
use Rattle.layout.proofs.Fits.{layout_fits, map_fits}
use Rattle.probes.proofs.cells.map_of.Goals as goal

pub new-requires : goal.new-requires
new-requires c = rw c.layout.ensures (layout_fits _)

pub returns : goal.returns
returns c = rw (c.new.ensures, c.layout.ensures) (refl, map_fits _ (layout_fits _) _ _)
