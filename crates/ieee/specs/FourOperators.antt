-- IEEE 754-2019, clauses 5.4.1 and 6.3: the four operations on finite operands and the conversion of an integer give
-- the exact result, rounded. `Special` has the other operands. A sign is negative where true. Definitions only.
use Rattle.std.specs.Prelude.{ℕ, ◌+◌, ◌-◌, ◌*◌, ◌<◌, ◌≡◌, Bool, false, not, T, ℤ, pos, nat_abs, Float}
use Rattle.std.specs.Int.Signed.{non_neg}
use Rattle.std.specs.Float.{fin, Format}
use Rattle.std.specs.Float.Ieee.{unlike, add, sub, mul, div, of_int}
use Rattle.std.specs.Float.Ieee.Scale.{finite}
use Rattle.std.specs.Float.Ieee.Positive.{num, den}
use Rattle.ieee.specs.Nearest.{sign, TiesToEven}

-- v is the sum of a / c with the sign s and b / c with the sign t: for like signs, and for unlike ones by the larger
pub record Sum (f : Format) (s : Bool) (a : ℕ) (t : Bool) (b c : ℕ) (v : Float) : Type 0 where
  pub like : s ≡ t → TiesToEven f s (a + b) c v
  pub first : ¬ (s ≡ t) → b < a → TiesToEven f s (a - b) c v
  pub second : ¬ (s ≡ t) → a < b → TiesToEven f t (b - a) c v
  pub nothing : ¬ (s ≡ t) → a ≡ b → v ≡ fin false 0 (pos 0)

module _ (f : Format) (◌⊕◌ ◌⊖◌ ◌⊗◌ ◌⊘◌ : Float → Float → Float) where
  infixl 6 ◌⊕◌ ◌⊖◌
  infixl 7 ◌⊗◌ ◌⊘◌
  -- x - y is the sum with y's sign changed, and x / y is for a y that is not 0
  pub record Rounded (x y : Float) : Type 0 where
    pub sum : Sum f (sign x) (num x * den y) (sign y) (num y * den x) (den x * den y) (x ⊕ y)
    pub difference : Sum f (sign x) (num x * den y) (not (sign y)) (num y * den x) (den x * den y) (x ⊖ y)
    pub product : TiesToEven f (unlike (sign x) (sign y)) (num x * num y) (den x * den y) (x ⊗ y)
    pub quotient : 0 < num y → TiesToEven f (unlike (sign x) (sign y)) (num x * den y) (num y * den x) (x ⊘ y)

unfoldable pub FourRound : Type 0
FourRound =
    (f : Format) (x y : Float) → T (finite x) → T (finite y) → Rounded f (add f) (sub f) (mul f) (div f) x y

-- |z| / 1 with z's sign; 0 gives +0
unfoldable pub IntegersRound : Type 0
IntegersRound = (f : Format) (z : ℤ) → TiesToEven f (not (non_neg z)) (nat_abs z) 1 (of_int f z)
