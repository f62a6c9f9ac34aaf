-- How many numbers of each kind a record's fields give. The settings' own numbers are not read for that.
use Rattle.std.specs.Float.{nan}
use Rattle.table.specs.Sizes.{nc_of, ncell_of, grid_cells, nbits_of}
use Rattle.refine.specs.declared.settings.Settings.{Settings}
use Rattle.wire.specs.declared.fields.Fields.{Fields}
use Rattle.wire.specs.declared.shape.Sizes.{Sizes}
use Rattle.wire.specs.Record.{settings_of}

-- settings before their numbers are known
abbrev pub plain : Fields → Settings
plain f = settings_of f nan nan nan

unfoldable pub sizes_of : Fields → Sizes
sizes_of f = record { nc = nc_of (plain f); ncell = ncell_of (plain f); grid = grid_cells (plain f); nbits = nbits_of (plain f) }
