-- What is known of a place that is not turned away. Assumes nothing.
use Prim.Native.Nat.{ℕ, ◌<◌}
use mathlib.Core.Path.{◌≡◌, sym}
use mathlib.Core.Bool.{false}
use lib.Dec.{leb}
use borrow.Author.Tests.{leb-false}
use Rattle.layout.specs.Layouts.{layout_of}
use Rattle.layout.specs.Sizes.{ng_of}
use Rattle.refine.specs.declared.settings.Settings.{Settings}
use Rattle.phy.specs.Channels.{bad_place}
use Rattle.table.specs.Sizes.{nc_of}
use Rattle.std.proofs.lemmas.Bool.{or_parts}

pub in_grid : (s : Settings) (carrier symbol : ℕ) → false ≡ bad_place s carrier symbol → (carrier < nc_of s) × (symbol < ng_of (layout_of s.layout) s.nsym)
unfolding bad_place
in_grid s carrier symbol e =
    let t = or_parts (leb (nc_of s) carrier) (leb (ng_of (layout_of s.layout) s.nsym) symbol) (sym e) in
    (leb-false _ _ t.0, leb-false _ _ t.1)
