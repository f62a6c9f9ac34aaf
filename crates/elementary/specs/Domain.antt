-- Which numbers each function is asked for, as the contracts require it. A NaN is always among them: no test holds for
-- it.
use Rattle.std.specs.Prelude.{not, T, is_nan, Float}
use Rattle.std.specs.Float.Ieee.{lt, neg}
use Rattle.elementary.specs.Constants.{zero+, unit, least, most}

abbrev pub Number : Float → Type 0
Number x = T (not (is_nan x))

-- exp: x ≤ 0, the infinity below too
abbrev pub NotAbove : Float → Type 0
NotAbove x = T (not (lt zero+ x))

-- ln: 1e-30 ≤ v, the infinity too
abbrev pub FromLeast : Float → Type 0
FromLeast v = T (not (lt v least))

-- ln_1p: 0 ≤ t ≤ 1
abbrev pub InUnit : Float → Type 0
InUnit t = T (not (lt t zero+)) × T (not (lt unit t))

-- sin and cos: |p| ≤ 512
abbrev pub InTurns : Float → Type 0
InTurns p = T (not (lt most p)) × T (not (lt p (neg most)))
