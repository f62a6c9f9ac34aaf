-- The definitions of `Cells`, `Judge` and `Upto` at what a `Judge` holds.
use Rattle.std.specs.Prelude.{ℕ, ◌+◌, ◌≤◌, ◌<◌, Option, Some, None, List, [], length, get_or, Float}
use Rattle.dsp.specs.declared.Complex.{Complex}
use Rattle.load.specs.declared.pilots.Pilots.{Pilots}
use Rattle.load.specs.Pilots.{listed}
use Rattle.est.specs.declared.combine.Estimate.{Estimate}
use Rattle.est.specs.declared.estimator.Estimator.{Estimator}
use Rattle.equalize.specs.declared.filter.Equalized.{Equalized}
use Rattle.equalize.specs.Answer.{Answer}
use Rattle.judge.specs.declared.estimates.Fitted.{Fitted}
use Rattle.judge.specs.declared.spreading.Spreading.{Spreading}
use Rattle.judge.specs.declared.symbol.Judge.{Judge}
use Rattle.judge.specs.Cells.{estimate_for}
use Rattle.judge.specs.Judge.{demapped, equalized}
use Rattle.judge.specs.Upto.{Upto}

-- the pilots of symbol g stand from start[g] to start[g + 1]
abbrev pub InOrder : Pilots → ℕ → Type 0
InOrder ps g =
    (g + 1 < length ps.start.now) × (get_or ps.start.now g 0 ≤ get_or ps.start.now (g + 1) 0) × (get_or ps.start.now (g + 1) 0 ≤ length ps.c.now)

-- the model that an estimator holds
abbrev pub fitted_in : Estimator → Fitted
fitted_in e = record { w = e.window; u = e.scales; scale = e.mse_scale }

-- the soft points of a spread burst: of another, `judged` asks for none
abbrev pub soft_points : Option Spreading → List Float
soft_points (Some x) = x.soft.now
soft_points None = []

module _ (j : Judge) where
  abbrev pub estimate_with : Complex → ℕ → Estimate
  estimate_with x cell =
      estimate_for j.source (listed j.estimator.pilots) j.estimator.pilots.start.now (fitted_in j.estimator) j.estimator.rf.now j.estimator.rt.now x cell

  abbrev pub demapped_by : ℕ → Estimate → List Float
  demapped_by cell e = demapped j.source j.points.now.pts j.shape.bps j.grid.now j.cells.now cell e

  abbrev pub equalized_by : Spreading → (ℕ → Estimate) → ℕ → Answer Equalized
  equalized_by x row t = equalized j.source j.shape.gain x.soft.now j.grid.now j.cells.now row t

  abbrev pub JudgedUpto : ℕ → (e a channel answer : List Float) → Type 0
  JudgedUpto n e a channel answer =
      Upto j.source j.shape (fitted_in j.estimator) (listed j.estimator.pilots) j.estimator.pilots.start.now j.estimator.rf.now j.estimator.rt.now
      j.points.now.pts (soft_points j.spreading) j.grid.now j.cells.now n e a channel answer
