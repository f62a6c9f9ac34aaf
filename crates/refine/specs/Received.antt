-- The burst that a `BurstGrid` hands in.
use Rattle.refine.specs.declared.burst_grid.BurstGrid.{BurstGrid}
use Rattle.refine.specs.Refine.{Burst, burst}

abbrev pub burst_of : BurstGrid → Burst
burst_of b = burst b.settings b.grid.now b.sigma.now b.cells.now
