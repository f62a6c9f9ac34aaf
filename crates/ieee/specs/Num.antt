-- The float operators under short names: circled at f64, squared at f32. The code's `a * b` at f64 is `a ⊗ b`, at f32
-- `a ⊠ b`.
use Rattle.std.specs.Prelude.{ℕ, pos, Float}
use Rattle.std.specs.Float.{binary32, binary64}
use Rattle.std.specs.Float.Ieee.{add, sub, mul, div, of_bits, of_int}

infixl 6 ◌⊕◌ ◌⊖◌ ◌⊞◌ ◌⊟◌
infixl 7 ◌⊗◌ ◌⊘◌ ◌⊠◌ ◌⧄◌
abbrev pub ◌⊕◌ : Float → Float → Float
x ⊕ y = add binary64 x y

abbrev pub ◌⊖◌ : Float → Float → Float
x ⊖ y = sub binary64 x y

abbrev pub ◌⊗◌ : Float → Float → Float
x ⊗ y = mul binary64 x y

abbrev pub ◌⊘◌ : Float → Float → Float
x ⊘ y = div binary64 x y

abbrev pub ◌⊞◌ : Float → Float → Float
x ⊞ y = add binary32 x y

abbrev pub ◌⊟◌ : Float → Float → Float
x ⊟ y = sub binary32 x y

abbrev pub ◌⊠◌ : Float → Float → Float
x ⊠ y = mul binary32 x y

abbrev pub ◌⧄◌ : Float → Float → Float
x ⧄ y = div binary32 x y

-- 0.0 and 1.0
abbrev pub zero64 : Float
zero64 = of_bits binary64 0

abbrev pub one64 : Float
one64 = of_bits binary64 0x3ff0_0000_0000_0000

abbrev pub zero32 : Float
zero32 = of_bits binary32 0

abbrev pub one32 : Float
one32 = of_bits binary32 0x3f80_0000

-- n as f64, and n as f32
abbrev pub f64_of : ℕ → Float
f64_of n = of_int binary64 (pos n)

abbrev pub f32_of : ℕ → Float
f32_of n = of_int binary32 (pos n)
