-- The counts of document 01, and the bounds that follow. Assumes nothing.
use Rattle.std.proofs.Common.{ℕ, ◌*◌, ◌≤◌, Bool, true, false, refl, mul-le-mul, arith}
use Rattle.layout.specs.declared.layouts.Layout.{Layout}
use Rattle.layout.specs.Layouts.{normal, long, normal_wide, long_wide, slice, slim, half, quarter, sixth, layouts, layout_of}
use Rattle.layout.specs.Patterns.{pilots_of}
use Rattle.layout.specs.Sizes.{pattern_of, data_carriers_of, Counts, LayoutBounds, BurstBounds, Bounds}
use Rattle.layout.proofs.Each.{each}

pub counts : Counts
unfolding layouts normal long normal_wide long_wide slice slim half quarter sixth data_carriers_of pattern_of pilots_of
counts = record { robust = refl; sparse = refl; leading = refl }

abbrev Both : Layout → Type 0
Both l = LayoutBounds l false × LayoutBounds l true

both : (number : ℕ) → Both (layout_of number)
unfolding layouts normal long normal_wide long_wide slice slim half quarter sixth data_carriers_of pattern_of pilots_of
both = each Both (omega arith, (omega arith, (omega arith, (omega arith, (omega arith, (omega arith, (omega arith, (omega arith, (omega arith, tt))))))))) (omega arith)

one : (number : ℕ) (sparse : Bool) → LayoutBounds (layout_of number) sparse
one number false = (both number).0
one number true = (both number).1

burst : (l : Layout) (sparse : Bool) (nsym bps : ℕ) → LayoutBounds l sparse → 1 ≤ nsym → nsym ≤ 1023 → 2 ≤ bps → bps ≤ 6 → BurstBounds l sparse nsym bps
burst l sparse nsym bps b h h' k k' =
    let low : 1 * 3 ≤ nsym * data_carriers_of l sparse = mul-le-mul h b.dc_low in
    let high : nsym * data_carriers_of l sparse ≤ 1023 * 99 = mul-le-mul h' b.dc_high in
    record {
      ng_high = omega (arith, b.pre_high);
      ncell_low = low;
      ncell_high = high;
      nbits_low = mul-le-mul low k;
      nbits_high = mul-le-mul high k';
    }

pub bounds : Bounds
bounds = record { layout = one; burst = λ number sparse nsym bps. burst (layout_of number) sparse nsym bps (one number sparse) }
