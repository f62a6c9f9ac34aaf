-- What `probe_estimates` answers: at each cell asked for, the estimate without the cell's own pilot.
use Rattle.std.specs.Prelude.{ℕ, ◌*◌, ◌/◌, ◌%◌, ◌≡◌, cond, List, [], ◌∷◌, ◌++◌, leb, ltb, eqb, length, get_or, drop, Float}
use Rattle.std.specs.Float.{nan}
use Rattle.seq.specs.Cat.{cat}
use Rattle.dsp.specs.Arithmetic.{complex}
use Rattle.load.specs.declared.pilot.Pilot.{Pilot}
use Rattle.load.specs.Load.{nothing}
use Rattle.load.specs.Pilots.{listed}
use Rattle.near.specs.declared.query.Query.{Query}
use Rattle.est.specs.Estimate.{estimate_without}
use Rattle.est.specs.declared.combine.Estimate.{Estimate}
use Rattle.est.specs.declared.estimator.Estimator.{Estimator}
use Rattle.est.specs.declared.model.Scales.{Scales}
use Rattle.model.specs.declared.trial.Setting.{Setting}
use Rattle.model.specs.declared.select.Model.{Model}
use Rattle.judge.specs.Cells.{index_in}
use Rattle.judge.specs.Symbol.{fitted_in}
use Rattle.judge.specs.declared.estimates.Fitted.{Fitted}
use Rattle.judge.specs.Fitted.{fitted_of, carrier_table, symbol_table}
use Rattle.probes.specs.declared.pilots.LoadSettings.{LoadSettings}
use Rattle.probes.specs.Loading.{source_for, Loading}
use Rattle.bursts.specs.declared.estimates.Asked.{Asked}
use Rattle.bursts.specs.Work.{setting_for, pilots_in, starts_in}

-- carrier c of symbol g, with the model's units of distance
abbrev pub cell : Scales → ℕ → ℕ → Query
cell u c g = record { c = c; g = g; lc = u.lc; lg = u.lg }

-- what a cell past the grid has
abbrev pub outside : Estimate
outside = record { h = complex nan nan; mse = nan }

abbrev pub flat_estimate : Estimate → List Float
flat_estimate e = e.h.re ∷ e.h.im ∷ e.mse ∷ []

-- `pilot_index` over a list of pilots and where each symbol's begin
unfoldable pub own_of : List Pilot → List ℕ → ℕ → ℕ → ℕ
own_of ps start = index_in (λ i. (get_or ps i nothing).c) start

module _ (p_h : Float) (f : Fitted) (ps : List Pilot) (start : List ℕ) (rf rt : List Float) where
  -- at cell j of the grid, counted in order of symbol, then carrier
  unfoldable pub estimate_at : ℕ → Estimate
  estimate_at j =
      let c = j % f.w.nc in
      let g = j / f.w.nc in
      cond (ltb g f.w.ng) (estimate_without p_h rf rt (cell f.u c g) f.w ps start f.scale (own_of ps start c g)) outside

  unfoldable pub estimates_at : List ℕ → List Float
  estimates_at at = cat (length at) (λ i. flat_estimate (estimate_at (get_or at i 0)))

-- the same at what an estimator holds
module _ (e : Estimator) where
  abbrev pub estimate_with : ℕ → Estimate
  estimate_with j = estimate_at e.p_h (fitted_in e) (listed e.pilots) e.pilots.start.now e.rf.now e.rt.now j

  abbrev pub estimates_with : List ℕ → List Float
  estimates_with at = estimates_at e.p_h (fitted_in e) (listed e.pilots) e.pilots.start.now e.rf.now e.rt.now at

-- by its indices and its factor
abbrev pub model_of : Asked → Model
model_of a = record { fd = a.fd; tm = a.tm; scale = a.scale }

-- after set_model(fd, tm)
unfoldable pub estimates_by : Setting → Asked → List Pilot → List ℕ → List ℕ → List Float
estimates_by s a ps start = estimates_at s.p_h (fitted_of s (model_of a)) ps start (carrier_table s (model_of a)) (symbol_table s (model_of a))

-- three numbers a cell in front of out, which is as it was where it has no room for them
unfoldable pub put_by : (at : List ℕ) (new out : List Float) → List Float
put_by at new out = cond (leb (length at) (length out / 3)) (new ++ drop (length at * 3) out) out

-- r is what `probe_load` answers. Where it loads nothing, out is as it was
pub record Estimating (t : LoadSettings) (a : Asked) (at : List ℕ) (grid sigma cells expected : List Float) (w₀ : List ℕ) (pf₀ out₀ : List Float) (w : List ℕ) (pf out : List Float) (r : ℕ) : Type 0 where
  pub loading : Loading t grid sigma cells expected w₀ pf₀ w pf r
  pub written : out ≡ cond (eqb r 0) out₀ (put_by at (estimates_by (setting_for t a.k) a (pilots_in (source_for t) grid sigma cells expected) (starts_in (source_for t) grid sigma cells expected) at) out₀)
