-- Document 01's nc, ncell and nbits of a burst with these settings.
use Rattle.std.specs.Prelude.{ℕ, ◌+◌, ◌*◌, ◌≤◌}
use Rattle.layout.specs.declared.layouts.Layout.{Layout}
use Rattle.layout.specs.Layouts.{layout_of}
use Rattle.layout.specs.Sizes as layout
use Rattle.points.specs.Constellation.{bps_of}
use Rattle.refine.specs.declared.settings.Settings.{Settings}

module _ (s : Settings) where
  abbrev l : Layout
  l = layout_of s.layout

  abbrev pub nc_of : ℕ
  nc_of = l.nc

  -- ng × nc
  abbrev pub grid_cells : ℕ
  grid_cells = layout.ng_of l s.nsym * nc_of

  abbrev pub ncell_of : ℕ
  ncell_of = layout.ncell_of l s.sparse s.nsym

  abbrev pub nbits_of : ℕ
  nbits_of = layout.nbits_of l s.sparse s.nsym (bps_of s.constellation)

  -- numbers of either list of the work area
  abbrev pub work_length : ℕ
  work_length = nbits_of + 12 * grid_cells

-- data symbols that a burst may have
pub record Counted (s : Settings) : Type 0 where
  pub some : 1 ≤ s.nsym
  pub most : s.nsym ≤ 1023
