-- The row of cause 7 at its edges. Assumes nothing.
use Prim.Native.Nat.{ℕ, zero, suc}
use mathlib.Core.Path.{◌≡◌, refl, ap}
use mathlib.Core.Bool.{Bool, true, false}
use mathlib.Core.List.{List, [], ◌∷◌}
use native.Mathlib.Omega.{arith}
use Rattle.std.proofs.lemmas.List.{take-take}
use lib.ListN.{take}
use lib.Ieee.{Float, inf, neg, of_bits, round, lt, le}
use Rattle.ieee.specs.Order.{is_finite}
use Rattle.refine.specs.declared.settings.Settings.{Settings}
use Rattle.table.specs.Sizes.{nbits_of}
use Rattle.scan.specs.Fine.{is_variance}
use Rattle.table.specs.Rows.{is_power, is_level, bad_numbers}
use Rattle.table.specs.Edges.{Edges}

past : (s : Settings) (grid sigma cells prior : List Float) → bad_numbers s grid sigma cells prior ≡ bad_numbers s grid sigma cells (take (nbits_of s) prior)
unfolding bad_numbers
past s grid sigma cells prior = rw (take-take (nbits_of s) (nbits_of s) prior (omega arith)) refl

inf_variance : (minus : Bool) → is_variance (inf minus) ≡ false
unfolding is_variance is_finite of_bits lt
inf_variance true = refl
inf_variance false = refl

inf_power : (minus : Bool) → is_power (inf minus) ≡ false
unfolding is_power is_finite of_bits lt
inf_power true = refl
inf_power false = refl

inf_level : (minus : Bool) → is_level (inf minus) ≡ false
unfolding is_level of_bits le
inf_level true = refl
inf_level false = refl

pub edges : Edges
unfolding is_variance is_power is_level is_finite of_bits round neg lt le
edges = record {
  eighth = refl;
  eight = refl;
  lowest = refl;
  highest = refl;
  no_variance = refl;
  minus_no_variance = refl;
  no_power = refl;
  minus_no_power = refl;
  nan_variance = refl;
  nan_power = refl;
  nan_level = refl;
  inf_variance = inf_variance;
  inf_power = inf_power;
  inf_level = inf_level;
  past = past;
}
