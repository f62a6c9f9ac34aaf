-- `probes::carriers_at`: no more pilots than carriers.
use Rattle.layout.proofs.Fits.{at_fits, pilots_le}
use Rattle.layout.specs.Maps.{carriers_at}
use Rattle.probes.proofs.cells.carriers_at.Goals as goal

pub pilots-requires : goal.pilots-requires
pilots-requires c = rw c.pattern.ensures (at_fits _ c.requires _)

pub overflow_sub-result : goal.overflow_sub-result
overflow_sub-result c = rw (c.pilots.ensures, c.pattern.ensures) (pilots_le _ _ (at_fits _ c.requires _))

pub returns : goal.returns
unfolding carriers_at
returns c = rw (c.pilots.ensures, c.pattern.ensures)
