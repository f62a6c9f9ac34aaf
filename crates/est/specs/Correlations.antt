-- The two lists that `Correlations` holds, and which model they are of.
use Rattle.std.specs.Prelude.{◌≡◌, ◌+◌, ◌*◌, List, take, Float}
use Rattle.est.specs.Model.{SetModel}
use Rattle.est.specs.declared.model.Numerology.{Numerology}
use Rattle.est.specs.declared.correlations.Correlations.{Correlations}

abbrev pub along_carriers : Correlations → List Float
along_carriers t = take t.nrf t.rf

abbrev pub along_symbols : Correlations → List Float
along_symbols t = take t.nrt t.rt

-- what `set_model` answers
pub record Models (l : Numerology) (fd tm : Float) (t : Correlations) : Type 0 where
  pub carriers : t.nrf ≡ 2 * l.nc + 1
  pub symbols : t.nrt ≡ 4 * l.gw + 1
  pub set : SetModel l fd tm (along_carriers t) (along_symbols t) t.scales
