-- What estimates need of the chosen model: its values by their indices, the tables, and what `fit` answers.
use Rattle.std.specs.Prelude.{◌≡◌, ◌+◌, ◌*◌, List, Float}
use Rattle.est.specs.Model.{rf_of, rt_of, scales_of}
use Rattle.est.specs.Correlations.{along_carriers, along_symbols}
use Rattle.est.specs.declared.correlations.Correlations.{Correlations}
use Rattle.model.specs.Values.{numerology_of, window_of, fd_value, tm_value}
use Rattle.model.specs.declared.trial.Setting.{Setting}
use Rattle.model.specs.declared.select.Model.{Model}
use Rattle.judge.specs.declared.estimates.Fitted.{Fitted}

-- ---- the model by its indices: self.set_model(fd, tm), self.mse_scale

module _ (s : Setting) (m : Model) where
  abbrev pub fd : Float
  fd = fd_value s.l s.sparse m.fd

  abbrev pub tm : Float
  tm = tm_value s.l m.tm

  unfoldable pub fitted_of : Fitted
  fitted_of = record { w = window_of s.l s.ng s.k; u = scales_of (numerology_of s.l) fd tm; scale = m.scale }

  -- self.rf and self.rt
  unfoldable pub carrier_table : List Float
  carrier_table = rf_of (numerology_of s.l) tm

  unfoldable pub symbol_table : List Float
  symbol_table = rt_of (numerology_of s.l) fd

-- `fit`: the chosen model, with correlations as long as the layout needs them
pub record Fitting (s : Setting) (m : Model) (f : Fitted) (t : Correlations) : Type 0 where
  pub model : f ≡ fitted_of s m
  pub carriers : along_carriers t ≡ carrier_table s m
  pub symbols : along_symbols t ≡ symbol_table s m
  pub long_rf : t.nrf ≡ 2 * s.l.nc + 1
  pub long_rt : t.nrt ≡ 4 * s.l.gw + 1
