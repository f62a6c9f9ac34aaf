-- A burst of any layout is a source that the loader takes. Assumes nothing.
use Prim.Native.Nat.{ℕ, ◌-◌, ◌*◌, ◌≤◌}
use mathlib.Core.Path.{◌≡◌}
use mathlib.Core.Bool.{Bool}
use mathlib.Core.List.{List}
use native.Mathlib.Omega.{arith}
use lib.ListN.{length}
use lib.Ieee.{Float}
use Rattle.layout.specs.Layouts.{layout_of}
use Rattle.layout.specs.Sizes.{pre_syms, ng_of, ncell_of}
use Rattle.layout.specs.Maps.{map_of}
use Rattle.layout.proofs.Fits.{layout_fits, map_fits}
use Rattle.layout.proofs.Cells.{carriers_data}
use Rattle.layout.proofs.Bounds.{bounds}
use Rattle.load.specs.Fit.{source_of, FitSource}

pub source_fits : (number : ℕ) (sparse : Bool) (gain : Float) (nsym : ℕ) (boost power es : Float) (sigma cells expected : List Float) → nsym ≤ 1023
    → (layout_of number).nc ≤ length sigma → ncell_of (layout_of number) sparse nsym ≤ length cells → 3 * ncell_of (layout_of number) sparse nsym ≤ length expected
    → FitSource (source_of (layout_of number) sparse gain nsym boost power es) sigma cells expected
unfolding map_of
source_fits number sparse gain nsym boost power es sigma cells expected few hs hc he =
    let l = layout_of number in
    let n : ng_of l nsym - pre_syms l ≡ nsym = omega arith in
    record {
      map = map_fits l (layout_fits number) sparse gain;
      symbols = omega (arith, (bounds.layout number sparse).pre_high);
      carriers = λ g h. carriers_data l sparse gain g h;
      long_sigma = hs;
      long_cells = rw n hc;
      long_expected = rw n he;
    }
