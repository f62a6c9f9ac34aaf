-- IEEE 754-2019, clause 5.11: how two values compare. Definitions only.
use Rattle.std.specs.Prelude.{◌*◌, ◌≡◌, ◌↔◌, Bool, not, ◌&&◌, ◌||◌, cond, T, ℤ, pos, neg_ℤ, ◌<ℤ◌, Float}
use Rattle.std.specs.Bool.{beq}
use Rattle.std.specs.Float.{inf}
use Rattle.std.specs.Float.Ieee.{lt, le, eq, ne}
use Rattle.std.specs.Float.Ieee.Scale.{finite}
use Rattle.std.specs.Float.Ieee.Positive.{num, den}
use Rattle.ieee.specs.Nearest.{sign}
use Rattle.ieee.specs.Special.{Zero, SomeNan}

-- x times den x * den y, for finite x and y: an integer, which is 0 for either zero
abbrev pub scaled : Float → Float → ℤ
scaled x y = cond (sign x) (neg_ℤ (pos (num x * den y))) (pos (num x * den y))

-- below, at most, equal, and not equal
module _ (◌≺◌ ◌≼◌ ◌≈◌ ◌≉◌ : Float → Float → Bool) where
  infix 40 ◌≺◌ ◌≼◌ ◌≈◌ ◌≉◌
  pub record Comparisons : Type 0 where
    -- finite numbers, by the exact ones: -0 equals +0
    pub below : (x y : Float) → T (finite x) → T (finite y) → T (x ≺ y) ↔ (scaled x y <ℤ scaled y x)
    pub equal : (x y : Float) → T (finite x) → T (finite y) → T (x ≈ y) ↔ (scaled x y ≡ scaled y x)
    pub zeros : (x y : Float) → Zero x → Zero y → T (x ≈ y) × T (not (x ≺ y))
    -- an infinity of the sign s is below every finite number where s is negative, and above it where not
    pub infinity : (s : Bool) (y : Float) → T (finite y) → (inf s ≺ y ≡ s) × (y ≺ inf s ≡ not s)
    pub unequal : (s : Bool) (y : Float) → T (finite y) → T (not (inf s ≈ y)) × T (not (y ≈ inf s))
    pub infinities : (s t : Bool) → (inf s ≺ inf t ≡ s && not t) × (inf s ≈ inf t ≡ beq s t)
    -- a NaN compares with nothing, itself included
    pub unordered : (x y : Float) → SomeNan x y →
        T (not (x ≺ y)) × T (not (x ≼ y)) × T (not (x ≈ y)) × T (x ≉ y)
    pub at_most : (x y : Float) → x ≼ y ≡ x ≺ y || x ≈ y
    pub differ : (x y : Float) → x ≉ y ≡ not (x ≈ y)

unfoldable pub IeeeComparisons : Type 0
IeeeComparisons = Comparisons lt le eq ne

-- and no pair is left open
unfoldable pub OnlyComparisons : Type 0
OnlyComparisons =
    (◌≺◌ ◌≼◌ ◌≈◌ ◌≉◌ : Float → Float → Bool) → Comparisons ◌≺◌ ◌≼◌ ◌≈◌ ◌≉◌ → (x y : Float) →
    (◌≺◌ x y ≡ lt x y) × (◌≼◌ x y ≡ le x y) × (◌≈◌ x y ≡ eq x y) × (◌≉◌ x y ≡ ne x y)
