-- The nine layouts fit, and so does what is made of a layout that fits. Assumes nothing.
use Rattle.std.proofs.Common.{ℕ, ◌-◌, ◌*◌, ◌≤◌, Bool, true, false, cond, T, ltb, div-le_self, sub-le, mul-le-mul, arith}
use lib.IntN.{pos}
use lib.Ieee.{Float, binary32, in_float}
use Rattle.ieee.proofs.Floats.{counted}
use Rattle.layout.specs.declared.pattern.Pattern.{Pattern}
use Rattle.layout.specs.declared.layouts.Layout.{Layout}
use Rattle.layout.specs.declared.map.Map.{Map}
use Rattle.layout.specs.Layouts.{normal, long, normal_wide, long_wide, slice, slim, half, quarter, sixth, layouts, layout_of}
use Rattle.layout.specs.Patterns.{pilots_of}
use Rattle.layout.specs.Sizes.{pattern_of, data_carriers_of}
use Rattle.layout.specs.Maps.{map_of, pattern_at}
use Rattle.layout.specs.Fit.{FitPattern, FitSizes, FitLayout, FitMap}
use Rattle.layout.proofs.Each.{each}
use Rattle.layout.proofs.Phases.{phases_fit}

sizes_fit : (k : ℕ) → FitSizes (layout_of k)
unfolding layouts normal long normal_wide long_wide slice slim half quarter sixth
sizes_fit = each FitSizes (omega arith, (omega arith, (omega arith, (omega arith, (omega arith, (omega arith, (omega arith, (omega arith, (omega arith, tt))))))))) (omega arith)

pub layout_fits : (k : ℕ) → FitLayout (layout_of k)
layout_fits k = record { sizes = sizes_fit k; phases = phases_fit k }

-- ---- what is made of a layout that fits

cond_fits : (nc : ℕ) (b : Bool) (p q : Pattern) → FitPattern p nc → FitPattern q nc → FitPattern (cond b p q) nc
cond_fits nc true p q f g = f
cond_fits nc false p q f g = g

pub pattern_fits : (l : Layout) → FitSizes l → (sparse : Bool) → FitPattern (pattern_of l sparse) l.nc
unfolding pattern_of
pattern_fits l f sparse = cond_fits l.nc sparse l.sparse l.robust f.sparse f.robust

pub map_fits : (l : Layout) → FitLayout l → (sparse : Bool) (gain : Float) → FitMap (map_of l sparse gain)
unfolding map_of
map_fits l f sparse gain = record { robust = f.sizes.robust; «data» = pattern_fits l f.sizes sparse; few = f.sizes.few; phases = f.phases }

pub at_fits : (m : Map) → FitMap m → (g : ℕ) → FitPattern (pattern_at m g) m.nc
unfolding pattern_at
at_fits m f g = cond_fits m.nc (ltb g m.hdr_end) m.robust m.«data» f.robust f.«data»

-- no more pilots than carriers
pub pilots_le : (p : Pattern) (nc : ℕ) → FitPattern p nc → pilots_of p nc ≤ nc
unfolding pilots_of
pilots_le p nc f = omega (arith, div-le_self (nc - 1) p.step)

pub carriers_le : (l : Layout) (sparse : Bool) → data_carriers_of l sparse ≤ l.nc
unfolding data_carriers_of
carriers_le l sparse = sub-le l.nc (pilots_of (pattern_of l sparse) l.nc)

-- nor more than 109 data carriers in each of the symbols
pub cells_le : (l : Layout) → FitSizes l → (sparse : Bool) (nsym : ℕ) → nsym ≤ 1023 → nsym * data_carriers_of l sparse ≤ 1023 * 109
cells_le l f sparse nsym h = let few : data_carriers_of l sparse ≤ 109 = omega (arith, carriers_le l sparse, f.few) in mul-le-mul h few

-- so few that an f32 holds their number
pub pilots_exact : (m : Map) → FitMap m → T (in_float binary32 (pos (pilots_of m.robust m.nc)))
pilots_exact m f = counted binary32 (pilots_of m.robust m.nc) (omega (arith, pilots_le m.robust m.nc f.robust, f.few))
