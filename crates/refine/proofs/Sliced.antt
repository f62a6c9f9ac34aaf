-- The parts of the work lists that are lent on, and the chosen model as the estimates want it.
use Prim.Native.Nat.{◌*◌, ◌≤◌}
use mathlib.Core.Path.{◌≡◌, refl, ◌∙◌}
use mathlib.Core.Bool.{cond}
use mathlib.Core.List.{List, []}
use lib.ListN.{length}
use lib.Ieee.{Float}
use Rattle.std.specs.Prelude.{Option, Some, None}
use Rattle.load.specs.declared.found.Source.{Source}
use Rattle.load.specs.Fit.{ncell}
use Rattle.expect.specs.declared.Shape.{Shape}
use Rattle.judge.specs.declared.spreading.Spreading.{Spreading}
use Rattle.judge.specs.Symbol.{soft_points}
use Rattle.load.specs.Pilots.{OnGrid}
use Rattle.est.specs.declared.estimator.Estimator.{Estimator}
use Rattle.model.specs.declared.select.Model.{Model}
use Rattle.model.specs.Values.{window_of}
use Rattle.judge.specs.declared.estimates.Fitted.{Fitted}
use Rattle.judge.specs.Fit.{Fits, FitSpreading}
use Rattle.refine.specs.declared.judging.Heard.{Heard}
use Rattle.refine.specs.Refine.{fitted_of}
use Rattle.refine.specs.Back.{Judgeable, SpreadBy}

module _ (h : Heard) (channel answer : List Float) (j : Judgeable h channel answer) where
  module _ (m : Model) (f : Fitted) (e : f ≡ fitted_of h.plan.setting m) where
    pub window_is : f.w ≡ window_of h.plan.setting.l h.plan.setting.ng h.plan.setting.k
    unfolding fitted_of
    window_is = rw e refl

    pub on_grid : OnGrid h.pilots f.w.nc f.w.ng
    on_grid = let a = j.agrees in rw (window_is, a.nc, a.ng) j.loaded

    pub fits_under : (r : Estimator) → r.window ≡ f.w → r.p_h ≡ h.plan.source.p_h → Fits h.plan.source r
    fits_under r ew ep = let a = j.agrees in record { cells = a.cells; nc = rw (ew, window_is) a.nc; ng = rw (ew, window_is) a.ng; power = ep }
