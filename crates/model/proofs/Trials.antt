-- One pilot more, and the sum of them, from what the calls ensure.
use Rattle.std.proofs.Common.{◌≡◌, ℕ, ◌<◌, length, ap, arith}
use Rattle.load.specs.Pilots.{listed}
use Rattle.load.specs.declared.pilot.Pilot.{Pilot}
use Rattle.near.specs.Search.{pilot}
use Rattle.near.proofs.Walks.{carrier_at, symbol_at}
use Rattle.est.specs.declared.estimator.Estimator.{Estimator}

-- pilot i may be asked for
pub may_ask : (e : Estimator) (i : ℕ) → i < length e.pilots.c.now → (p : Pilot) → p ≡ pilot (listed e.pilots) i → (p.c < e.window.nc) × (p.g < e.window.ng)
may_ask e i b p h =
    let ps = e.pilots in
    let n = length ps.c.now in (
      omega (arith, ap (λ (p : Pilot). p.c) h, carrier_at ps.c.now ps.g.now ps.f.now ps.start.now e.window.nc e.window.ng n e.on_grid i, e.on_grid.carrier i b),
      omega (arith, ap (λ (p : Pilot). p.g) h, symbol_at ps.c.now ps.g.now ps.f.now ps.start.now e.window.nc e.window.ng n e.on_grid i, e.on_grid.symbol i b),
    )
