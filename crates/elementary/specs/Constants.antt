-- The floats that the recipes name, as the bit patterns of the code's literals. `proofs/Decimals.antt` shows that each
-- is the decimal it stands for.
use Rattle.std.specs.Prelude.{from_bits, Float}
use Rattle.std.specs.Float.{binary32, binary64}
use Rattle.std.specs.Float.Ieee.{neg}

-- 0 and 1 as f32, and 0 as f64
abbrev pub zero+ : Float
zero+ = from_bits binary32 0

abbrev pub unit : Float
unit = from_bits binary32 0x3f80_0000

abbrev pub zero64 : Float
zero64 = from_bits binary64 0

-- -87: below it exp is 0
abbrev pub minus87 : Float
minus87 = neg (from_bits binary32 0x42ae_0000)

-- 1e-30: from it on ln is asked
abbrev pub least : Float
least = from_bits binary32 0x0da2_4260

-- 512: sin and cos are asked up to it
abbrev pub most : Float
most = from_bits binary64 0x4080_0000_0000_0000

-- PI of the source's library: no recipe names it, the angles that callers ask about are made of it
abbrev pub pi : Float
pi = from_bits binary64 0x4009_21fb_5444_2d18
