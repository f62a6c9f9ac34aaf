-- The float constants, as the code's literals have them, and the decimals that they are (proofs/Decimals.antt).
use Rattle.std.specs.Prelude.{◌≡◌, false, from_bits, Float}
use Rattle.std.specs.Float.{binary32, binary64}
use Rattle.std.specs.Float.Ieee.{round}
use Rattle.ieee.specs.Num.{◌⧄◌, f32_of}

abbrev pub d0·3 : Float
d0·3 = from_bits binary64 0x3fd3_3333_3333_3333

abbrev pub d1 : Float
d1 = from_bits binary64 0x3ff0_0000_0000_0000

abbrev pub d2 : Float
d2 = from_bits binary64 0x4000_0000_0000_0000

abbrev pub d2·5 : Float
d2·5 = from_bits binary64 0x4004_0000_0000_0000

abbrev pub d8 : Float
d8 = from_bits binary64 0x4020_0000_0000_0000

abbrev pub d16 : Float
d16 = from_bits binary64 0x4030_0000_0000_0000

abbrev pub d32 : Float
d32 = from_bits binary64 0x4040_0000_0000_0000

abbrev pub d40 : Float
d40 = from_bits binary64 0x4044_0000_0000_0000

abbrev pub d48 : Float
d48 = from_bits binary64 0x4048_0000_0000_0000

abbrev pub d80 : Float
d80 = from_bits binary64 0x4054_0000_0000_0000

abbrev pub lg0·15 : Float
lg0·15 = from_bits binary32 0x3e19_999a

-- PILOT_AMP
abbrev pub pilot_amp : Float
pilot_amp = from_bits binary32 0x3faa_aaab

pub record Decimals : Type 0 where
  pub is-0·3 : d0·3 ≡ round binary64 false 3 10
  pub is_1 : d1 ≡ round binary64 false 1 1
  pub is_2 : d2 ≡ round binary64 false 2 1
  pub is-2·5 : d2·5 ≡ round binary64 false 25 10
  pub is_8 : d8 ≡ round binary64 false 8 1
  pub is_16 : d16 ≡ round binary64 false 16 1
  pub is_32 : d32 ≡ round binary64 false 32 1
  pub is_40 : d40 ≡ round binary64 false 40 1
  pub is_48 : d48 ≡ round binary64 false 48 1
  pub is_80 : d80 ≡ round binary64 false 80 1
  pub is-0·15 : lg0·15 ≡ round binary32 false 15 100
  pub is-4/3 : pilot_amp ≡ f32_of 4 ⧄ f32_of 3
