-- What the row of cause 7 says at its edges. Proved in proofs/AtEdges.antt.
use Rattle.std.specs.Prelude.{◌≡◌, Bool, true, false, List, take, Float}
use Rattle.std.specs.Float.{nan, inf, binary32}
use Rattle.std.specs.Float.Ieee.{neg, round}
use Rattle.ieee.specs.Num.{zero32}
use Rattle.refine.specs.declared.settings.Settings.{Settings}
use Rattle.table.specs.Sizes.{nbits_of}
use Rattle.scan.specs.Fine.{is_variance}
use Rattle.table.specs.Rows.{is_power, is_level, eighth32, eight32, bad_numbers}

pub record Edges : Type 0 where
  -- 0.125 and 8, and both lie inside
  pub eighth : eighth32 ≡ round binary32 false 1 8
  pub eight : eight32 ≡ round binary32 false 8 1
  pub lowest : is_level eighth32 ≡ true
  pub highest : is_level eight32 ≡ true
  -- either zero is a variance, and neither a power
  pub no_variance : is_variance zero32 ≡ true
  pub minus_no_variance : is_variance (neg zero32) ≡ true
  pub no_power : is_power zero32 ≡ false
  pub minus_no_power : is_power (neg zero32) ≡ false
  -- what is not finite is none of the three
  pub nan_variance : is_variance nan ≡ false
  pub nan_power : is_power nan ≡ false
  pub nan_level : is_level nan ≡ false
  pub inf_variance : (minus : Bool) → is_variance (inf minus) ≡ false
  pub inf_power : (minus : Bool) → is_power (inf minus) ≡ false
  pub inf_level : (minus : Bool) → is_level (inf minus) ≡ false
  -- priors past the first nbits are not looked at
  pub past : (s : Settings) (grid sigma cells prior : List Float) → bad_numbers s grid sigma cells prior ≡ bad_numbers s grid sigma cells (take (nbits_of s) prior)
