-- What `probe_models` answers: the nine residuals, and the model chosen by them.
use Rattle.std.specs.Prelude.{ℕ, ◌≡◌, cond, List, [], ◌∷◌, eqb, Float}
use Rattle.ieee.specs.Num.{zero64, zero32}
use Rattle.load.specs.declared.pilot.Pilot.{Pilot}
use Rattle.model.specs.Select.{residuals, select_model}
use Rattle.model.specs.declared.trial.Setting.{Setting}
use Rattle.probes.specs.declared.pilots.LoadSettings.{LoadSettings}
use Rattle.probes.specs.Loading.{source_for, Loading}
use Rattle.bursts.specs.declared.models.Selected.{Selected}
use Rattle.bursts.specs.Work.{setting_for, pilots_in, starts_in}

abbrev pub nothing : Selected
nothing = record { np = 0; residuals = zero64 ∷ zero64 ∷ zero64 ∷ zero64 ∷ zero64 ∷ zero64 ∷ zero64 ∷ zero64 ∷ zero64 ∷ []; fd = 0; tm = 0; scale = zero32 }

abbrev pub selected_of : ℕ → Setting → List Pilot → List ℕ → Selected
selected_of np s ps start =
    record {
      np = np;
      residuals = residuals s ps start;
      fd = (select_model s ps start).fd;
      tm = (select_model s ps start).tm;
      scale = (select_model s ps start).scale;
    }

-- np is what `probe_load` answers
pub record Modelling (t : LoadSettings) (k : ℕ) (grid sigma cells expected : List Float) (w₀ : List ℕ) (pf₀ : List Float) (w : List ℕ) (pf : List Float) (r : Selected) : Type 0 where
  pub loading : Loading t grid sigma cells expected w₀ pf₀ w pf r.np
  pub selected : r ≡ cond (eqb r.np 0) nothing (selected_of r.np (setting_for t k) (pilots_in (source_for t) grid sigma cells expected) (starts_in (source_for t) grid sigma cells expected))
