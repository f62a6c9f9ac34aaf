-- IEEE 754-2019, clause 4.3.1, roundTiesToEven: what the rounded value of an exact number ±a / b is, for a b above 0,
-- said without a way to compute it.
-- A value y is ±num y / den y, and distances are compared in natural numbers by multiplying out the divisors.
-- Definitions only.
use Rattle.std.specs.Prelude.{ℕ, suc, ◌+◌, ◌-◌, ◌*◌, ◌%◌, ◌^◌, ◌≤◌, ◌<◌, ◌≡◌, ◌⊎◌, Bool, false, cond, T, Float}
use Rattle.std.specs.Bool.{beq}
use Rattle.std.specs.Float.{nan, inf, fin, Format, binary32}
use Rattle.std.specs.Float.Ieee.{prec, emax, low, round, lt, fits, to_bits}
use Rattle.std.specs.Float.Ieee.Scale.{finite}
use Rattle.std.specs.Float.Ieee.Positive.{num, den, positive}
use Rattle.ieee.specs.Narrow.{narrowed}
use Rattle.ieee.specs.Root.{rooted}

abbrev pub sign : Float → Bool
sign nan = false
sign (inf s) = s
sign (fin s m e) = s

-- y is a finite value of the format
abbrev pub Of : Format → Float → Type 0
Of f y = T (fits f y) × T (finite y)

-- |a - b|
abbrev pub apart : ℕ → ℕ → ℕ
apart a b = (a - b) + (b - a)

-- |±a - ±b|
abbrev pub gap : Bool → ℕ → Bool → ℕ → ℕ
gap s a t b = cond (beq s t) (apart a b) (a + b)

-- |±a / b - y|, times b * den y
abbrev pub distance : Bool → ℕ → ℕ → Float → ℕ
distance s a b y = gap s (a * den y) (sign y) (num y * b)

-- |±a / b - v| ≤ |±a / b - y|, and the two equal: both sides times b * den v * den y
abbrev pub AsNear : Bool → ℕ → ℕ → Float → Float → Type 0
AsNear s a b v y = distance s a b v * den y ≤ distance s a b y * den v

abbrev pub Tied : Bool → ℕ → ℕ → Float → Float → Type 0
Tied s a b v y = distance s a b v * den y ≡ distance s a b y * den v

-- The significand of v is the whole number c of prec digits, the last of which counts 2 ^ k smallest values; only a
-- subnormal value, with k = 0, begins with zeros.
-- Its least significant digit is even.
pub record EvenDigit (f : Format) (v : Float) : Type 0 where
  pub c : ℕ
  pub k : ℕ
  pub value : num v * 2 ^ low f ≡ c * 2 ^ k * den v
  pub digits : c < 2 ^ prec f
  pub leading : (k ≡ 0) ⊎ (2 ^ (prec f - 1) ≤ c)
  pub even : c % 2 ≡ 0

-- a / b ≥ 2 ^ emax * (2 - 2 ^ -prec), the midpoint of the largest value and 2 ^ (emax + 1)
abbrev pub Overflows : Format → ℕ → ℕ → Type 0
Overflows f a b = (2 ^ suc (prec f) - 1) * 2 ^ (emax f - prec f) * b ≤ a

pub record TiesToEven (f : Format) (s : Bool) (a b : ℕ) (v : Float) : Type 0 where
  pub held : T (fits f v)
  pub signed : sign v ≡ s
  -- an infinity of the sign exactly where the exact number is as large as that
  pub infinite : Overflows f a b → v ≡ inf s
  pub else_finite : ¬ Overflows f a b → T (finite v)
  -- no value is nearer, and where another is as near, v is the even one
  pub nearest : T (finite v) → (y : Float) → Of f y → AsNear s a b v y
  pub tie : T (finite v) → (y : Float) → Of f y → Tied s a b v y → ¬ (y ≡ v) → EvenDigit f v

-- every rounding of the arithmetic is that
unfoldable pub RoundTiesToEven : Type 0
RoundTiesToEven = (f : Format) (s : Bool) (a b : ℕ) → 0 < b → TiesToEven f s a b (round f s a b)

-- and no other value is: the record above settles the value and its sign
unfoldable pub OnlyOne : Type 0
OnlyOne = (f : Format) (s : Bool) (a b : ℕ) (v : Float) → 0 < b → TiesToEven f s a b v → v ≡ round f s a b

-- an even digit is a last bit of 0 in the value's encoding
unfoldable pub EvenBit : Type 0
EvenBit = (f : Format) (v : Float) → T (finite v) → EvenDigit f v → to_bits f v % 2 ≡ 0

-- ---- a narrowing from f64 to f32, where x is finite
unfoldable pub NarrowTiesToEven : Type 0
unfolding narrowed
NarrowTiesToEven = (x : Float) → T (finite x) → TiesToEven binary32 (sign x) (num x) (den x) (narrowed x)

-- ---- a root that need not be a fraction: the number ρ with ρ ^ j = a / b, for a, b and j above 0
-- v, which is not negative, is nearest to ρ where ρ lies on v's side of each midpoint (v + y) / 2. That is said by the
-- j-th powers.

-- v + y, times den v * den y; 0 where it would be below 0
abbrev pub total : Float → Float → ℕ
total v y = cond (sign y) (num v * den y - num y * den v) (num v * den y + num y * den v)

-- ((v + y) / 2) ^ j, and ρ ^ j, both times b * (2 * den v * den y) ^ j
abbrev pub mid_power : ℕ → ℕ → Float → Float → ℕ
mid_power j b v y = total v y ^ j * b

abbrev pub root_power : ℕ → ℕ → Float → Float → ℕ
root_power j a v y = a * (2 * (den v * den y)) ^ j

pub record NearestRoot (f : Format) (j a b : ℕ) (v : Float) : Type 0 where
  pub held : Of f v
  pub signed : sign v ≡ false
  pub below : (y : Float) → Of f y → T (lt y v) → mid_power j b v y ≤ root_power j a v y
  pub above : (y : Float) → Of f y → T (lt v y) → root_power j a v y ≤ mid_power j b v y
  pub tie : (y : Float) → Of f y → mid_power j b v y ≡ root_power j a v y → ¬ (y ≡ v) → EvenDigit f v

-- the square root of a value above zero
unfoldable pub RootToNearest : Type 0
unfolding rooted
RootToNearest = (f : Format) (x : Float) → T (fits f x) → T (positive x) → NearestRoot f 2 (num x) (den x) (rooted f x)

-- and no other value is nearest
unfoldable pub OnlyRoot : Type 0
OnlyRoot = (f : Format) (j a b : ℕ) (v w : Float) → 0 < j → 0 < b → NearestRoot f j a b v → NearestRoot f j a b w → v ≡ w
