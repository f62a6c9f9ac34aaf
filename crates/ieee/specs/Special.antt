-- IEEE 754-2019, clauses 6 and 7: the operations where an operand is not finite or the divisor is 0.
-- Each part has its clause's number; s and t are signs, negative where true. Definitions only.
use Rattle.std.specs.Prelude.{◌<◌, ◌≡◌, Bool, true, false, not, ◌||◌, T, pos, Float}
use Rattle.std.specs.Float.{nan, inf, fin, Format}
use Rattle.std.specs.Float.Ieee.{unlike, add, sub, mul, div, is_nan}
use Rattle.std.specs.Float.Ieee.Scale.{finite}
use Rattle.std.specs.Float.Ieee.Positive.{num}
use Rattle.ieee.specs.Nearest.{sign}
use Rattle.ieee.specs.FourOperators.{Rounded}
use Rattle.ieee.specs.Narrow.{narrowed}
use Rattle.ieee.specs.Root.{rooted}

-- a finite number that is 0, with either sign
abbrev pub Zero : Float → Type 0
Zero x = T (finite x) × (num x ≡ 0)

abbrev pub Nonzero : Float → Type 0
Nonzero x = T (finite x) × (0 < num x)

abbrev pub SomeNan : Float → Float → Type 0
SomeNan x y = T (is_nan x || is_nan y)

-- ---- sum, difference, product, quotient
module _ (◌⊕◌ ◌⊖◌ ◌⊗◌ ◌⊘◌ : Float → Float → Float) where
  infixl 6 ◌⊕◌ ◌⊖◌
  infixl 7 ◌⊗◌ ◌⊘◌
  -- 6.1: an infinity and a finite number, and two infinities. The sign of the zero y / ∞ is 6.3's.
  pub record Infinities : Type 0 where
    pub sum : (s : Bool) (y : Float) → T (finite y) → (inf s ⊕ y ≡ inf s) × (y ⊕ inf s ≡ inf s)
    pub difference : (s : Bool) (y : Float) → T (finite y) → (inf s ⊖ y ≡ inf s) × (y ⊖ inf s ≡ inf (not s))
    pub product : (s : Bool) (y : Float) → Nonzero y →
        (inf s ⊗ y ≡ inf (unlike s (sign y))) × (y ⊗ inf s ≡ inf (unlike (sign y) s))
    pub quotient : (s : Bool) (y : Float) → T (finite y) →
        (inf s ⊘ y ≡ inf (unlike s (sign y))) × (y ⊘ inf s ≡ fin (unlike (sign y) s) 0 (pos 0))
    pub sums : (s : Bool) → inf s ⊕ inf s ≡ inf s
    pub differences : (s : Bool) → inf s ⊖ inf (not s) ≡ inf s
    pub products : (s t : Bool) → inf s ⊗ inf t ≡ inf (unlike s t)

  -- 7.2: ∞ - ∞, 0 × ∞, ∞ / ∞ and 0 / 0
  pub record Invalid : Type 0 where
    pub sum : (s : Bool) → inf s ⊕ inf (not s) ≡ nan
    pub difference : (s : Bool) → inf s ⊖ inf s ≡ nan
    pub product : (s : Bool) (y : Float) → Zero y → (inf s ⊗ y ≡ nan) × (y ⊗ inf s ≡ nan)
    pub quotient : (s t : Bool) → inf s ⊘ inf t ≡ nan
    pub zeros : (x y : Float) → Zero x → Zero y → x ⊘ y ≡ nan

  -- 6.2: a NaN on either side
  pub record Nans : Type 0 where
    pub sum : (x y : Float) → SomeNan x y → x ⊕ y ≡ nan
    pub difference : (x y : Float) → SomeNan x y → x ⊖ y ≡ nan
    pub product : (x y : Float) → SomeNan x y → x ⊗ y ≡ nan
    pub quotient : (x y : Float) → SomeNan x y → x ⊘ y ≡ nan

  pub record Arithmetic (f : Format) : Type 0 where
    pub rounded : (x y : Float) → T (finite x) → T (finite y) → Rounded f ◌⊕◌ ◌⊖◌ ◌⊗◌ ◌⊘◌ x y
    pub infinities : Infinities
    pub invalid : Invalid
    pub nans : Nans
    -- 7.3: what is not 0, divided by 0
    pub by_zero : (x y : Float) → Nonzero x → Zero y → x ⊘ y ≡ inf (unlike (sign x) (sign y))

unfoldable pub IeeeArithmetic : Type 0
IeeeArithmetic = (f : Format) → Arithmetic (add f) (sub f) (mul f) (div f) f

-- and no pair of operands is left open: what satisfies it is the same at every pair
unfoldable pub OnlyArithmetic : Type 0
OnlyArithmetic =
    (f : Format) (◌⊕◌ ◌⊖◌ ◌⊗◌ ◌⊘◌ : Float → Float → Float) → Arithmetic ◌⊕◌ ◌⊖◌ ◌⊗◌ ◌⊘◌ f → (x y : Float) →
    (◌⊕◌ x y ≡ add f x y) × (◌⊖◌ x y ≡ sub f x y) × (◌⊗◌ x y ≡ mul f x y) × (◌⊘◌ x y ≡ div f x y)

-- ---- the square root: 6.3, 7.2, 6.1 and 6.2. `Nearest.RootToNearest` has the numbers above 0.
pub record Roots (f : Format) : Type 0 where
  pub zero : (x : Float) → Zero x → rooted f x ≡ x
  pub negative : (x : Float) → Nonzero x → sign x ≡ true → rooted f x ≡ nan
  pub infinity : (rooted f (inf false) ≡ inf false) × (rooted f (inf true) ≡ nan)
  pub unknown : rooted f nan ≡ nan

-- ---- f64 to f32: 6.1 and 6.2. `Nearest.NarrowTiesToEven` has the finite numbers.
pub record Narrowings : Type 0 where
  pub infinity : (s : Bool) → narrowed (inf s) ≡ inf s
  pub unknown : narrowed nan ≡ nan
