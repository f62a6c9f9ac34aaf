-- The estimates of `probe_estimates`: a cell's own pilot, the cells past the grid, and the model's tables.
use Rattle.std.proofs.Common.{◌≡◌, ℕ, ◌*◌, ◌/◌, ◌%◌, ◌≤◌, ◌<◌, List, ◌++◌, length, get_or, drop}
use borrow.Author.Tests.{lt-ltb, le-ltb, lt-leb, le-leb}
use lib.Ieee.{Float}
use Rattle.probes.proofs.Withins.{nan_of32}
use Rattle.load.specs.Pilots.{listed}
use Rattle.est.specs.Estimator.{without_at}
use Rattle.est.specs.declared.combine.Estimate.{Estimate}
use Rattle.est.specs.declared.estimator.Estimator.{Estimator}
use Rattle.judge.specs.Cells.{index_in}
use Rattle.judge.specs.Symbol.{InOrder}
use Rattle.judge.proofs.Own.{index_by_carriers}
use Rattle.judge.proofs.Estimated.{starts}
use Rattle.bursts.specs.Estimating.{outside, own_of, estimate_at, estimate_with, put_by}

module _ (e : Estimator) where
  module _ (g : ℕ) (in-ng : g < e.window.ng) where
    pub in_order : InOrder e.pilots g
    in_order = starts e.on_grid g in-ng

    -- by the carriers alone
    own_found : (c : ℕ) → index_in (λ i. get_or e.pilots.c.now i 0) e.pilots.start.now c g ≡ own_of (listed e.pilots) e.pilots.start.now c g
    unfolding own_of
    own_found c = index_by_carriers e.pilots.c.now e.pilots.g.now e.pilots.f.now e.pilots.start.now e.window.nc e.window.ng e.on_grid c g in-ng

  module _ (j : ℕ) where
    pub past_grid : e.window.ng ≤ j / e.window.nc → outside ≡ estimate_with e j
    unfolding estimate_at
    past_grid h = rw (le-ltb (j / e.window.nc) e.window.ng h)

    pub in_grid : (own : ℕ) (r : Estimate) → j / e.window.nc < e.window.ng
        → own ≡ index_in (λ i. get_or e.pilots.c.now i 0) e.pilots.start.now (j % e.window.nc) (j / e.window.nc)
        → r ≡ without_at e (j % e.window.nc) (j / e.window.nc) own → r ≡ estimate_with e j
    unfolding estimate_at
    in_grid own r h eo er = rw (lt-ltb (j / e.window.nc) e.window.ng h, ← own_found (j / e.window.nc) h (j % e.window.nc), ← eo) er

module _ (at : List ℕ) (new old : List Float) where
  pub no_room : length old / 3 < length at → old ≡ put_by at new old
  unfolding put_by
  no_room h = rw (lt-leb (length at) (length old / 3) h)

  pub put : (out : List Float) → length at ≤ length old / 3 → out ≡ new ++ drop (length at * 3) old → out ≡ put_by at new old
  unfolding put_by
  put out h e = rw (le-leb (length at) (length old / 3) h) e

-- for `grind`, of one estimate
pub ruleset cells = (in_order, past_grid, in_grid, nan_of32)
