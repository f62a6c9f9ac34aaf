-- `probes::source_of`: every layout fits, and is small.
use mathlib.Core.Path.{◌≡◌, refl}
use Prim.Native.Nat.{◌-◌, ◌≤◌}
use native.Mathlib.Omega.{arith}
use borrow.Author.Rules.{rules}
use Rattle.layout.specs.Layouts.{layout_of}
use Rattle.layout.specs.Maps.{map_of}
use Rattle.layout.specs.Sizes.{ng_of, pre_syms}
use Rattle.layout.proofs.Fits.{layout_fits}
use Rattle.layout.proofs.Bounds.{bounds}
use Rattle.load.proofs.Sources.{source_fits}
use Rattle.probes.specs.declared.pilots.LoadSettings.{LoadSettings}
use Rattle.probes.specs.Loading.{source_for, Sourced}
use Rattle.probes.proofs.pilots.source_of.Goals as goal

pub new-requires : goal.new-requires
new-requires c = rw c.layout-l.ensures (layout_fits _)

pub data_carriers-requires : goal.data_carriers-requires
data_carriers-requires c = rw c.layout-l.ensures (layout_fits _).sizes

pub ng-requires : goal.ng-requires
ng-requires c = (rw c.layout-l.ensures (layout_fits _).sizes, search rules)

sourced : (t : LoadSettings) → t.nsym ≤ 1023 → Sourced t (source_for t)
unfolding map_of
sourced t h =
    let l = layout_of t.layout in
    let b = bounds.layout t.layout t.sparse in
    let n : ng_of l t.nsym - pre_syms l ≡ t.nsym = omega arith in
    record {
      is = refl;
      small = record { symbols = omega (arith, b.pre_high); leading = omega arith; few = b.nc_high; cells = b.dc_high };
      fit = λ sg ce ex u. source_fits t.layout t.sparse t.gain t.nsym t.boost t.p_h t.es sg ce ex h u.in_sigma (rw n at u.in_cells) (rw n at u.in_expected);
    }

pub returns : goal.returns
returns c =
    rw (c.ng.ensures, c.data_carriers.ensures, c.new.ensures, c.layout-l.ensures)
    (sourced _ c.requires)
