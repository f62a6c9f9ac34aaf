-- What the loader asks of a burst, and of the lists that it is lent.
use Rattle.std.specs.Prelude.{ℕ, ◌+◌, ◌-◌, ◌*◌, ◌≤◌, ◌≡◌, Bool, List, length, Float}
use Rattle.layout.specs.declared.layouts.Layout.{Layout}
use Rattle.layout.specs.Sizes.{data_carriers_of, ng_of}
use Rattle.layout.specs.Fit.{FitMap}
use Rattle.layout.specs.Maps.{map_of, carriers_at}
use Rattle.load.specs.declared.found.Source.{Source}

-- a burst of nsym data symbols
abbrev pub source_of : Layout → Bool → Float → ℕ → Float → Float → Float → Source
source_of l sparse gain nsym boost power es =
    record { map = map_of l sparse gain; dc = data_carriers_of l sparse; ng = ng_of l nsym; boost = boost; p_h = power; es = es }

-- ncell: those of the data symbols
abbrev pub ncell : Source → ℕ
ncell s = (s.ng - s.map.hdr_end) * s.dc

pub record FitSource (s : Source) (sigma cells expected : List Float) : Type 0 where
  pub map : FitMap s.map
  pub symbols : s.ng ≤ 1084
  pub carriers : (g : ℕ) → s.map.hdr_end ≤ g → carriers_at s.map g ≡ s.dc
  pub long_sigma : s.map.nc ≤ length sigma
  pub long_cells : ncell s ≤ length cells
  pub long_expected : 3 * ncell s ≤ length expected

-- ng * nc
abbrev pub places : Source → ℕ
places s = s.ng * s.map.nc

pub record Room (s : Source) (grid : List Float) (w : List ℕ) (pf : List Float) : Type 0 where
  pub long_grid : 2 * places s ≤ length grid
  pub long_w : 2 * places s + s.ng + 1 ≤ length w
  pub long_pf : 3 * places s ≤ length pf
