-- What depends on how two numbers compare: `max` as document 01 has it, Rust's `clamp` and `abs`, and which numbers are
-- finite. One definition serves both formats.
use Rattle.std.specs.Prelude.{Bool, true, false, not, cond, ◌≡◌, T, Float}
use Rattle.std.specs.Float.{nan, inf, fin}
use Rattle.std.specs.Float.Ieee.{lt, le, ne, is_nan}

-- the first, unless the second is greater or the first is not a number
unfoldable pub max_of : Float → Float → Float
max_of x y = cond (lt x y) y (cond (ne x x) y x)

-- x, or the limit that it is past; a NaN stays
unfoldable pub clamp_of : Float → Float → Float → Float
clamp_of x lo hi = cond (lt x lo) lo (cond (lt hi x) hi x)

-- the sign cleared
unfoldable pub abs_of : Float → Float
abs_of nan = nan
abs_of (inf s) = inf false
abs_of (fin s m e) = fin false m e

unfoldable pub is_finite : Float → Bool
is_finite nan = false
is_finite (inf s) = false
is_finite (fin s m e) = true

-- ---- statements, proved in proofs/Orders.antt

-- a maximum is below neither of the two, and it is a number where one of them is
pub record MaxLaws : Type 0 where
  pub first : (x y : Float) → T (not (lt (max_of x y) x))
  pub second : (x y : Float) → T (not (lt (max_of x y) y))
  pub number : (x y : Float) → T (not (is_nan y)) → T (not (is_nan (max_of x y)))

-- a number held to lo..hi is between them, and a number in between is left as it is
pub record ClampLaws : Type 0 where
  pub low : (x lo hi : Float) → T (not (is_nan x)) → T (le lo hi) → T (le lo (clamp_of x lo hi))
  pub high : (x lo hi : Float) → T (not (is_nan x)) → T (le lo hi) → T (le (clamp_of x lo hi) hi)
  pub inside : (x lo hi : Float) → T (not (lt x lo)) → T (not (lt hi x)) → clamp_of x lo hi ≡ x
