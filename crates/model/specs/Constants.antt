-- The numbers of `select_model` that are not written in whole. proofs/Decimals.antt has each as the number of the
-- source.
use Rattle.std.specs.Prelude.{from_bits, Float}
use Rattle.std.specs.Float.{binary64}
use Rattle.ieee.specs.Num.{◌⊘◌, zero64, one64}

-- 1e-30, 10.0
abbrev pub e_30 : Float
e_30 = from_bits binary64 0x39b4_484b_feeb_c2a0

abbrev pub ten : Float
ten = from_bits binary64 0x4024_0000_0000_0000

-- f64::INFINITY, as the quotient that it is
abbrev pub infinity : Float
infinity = one64 ⊘ zero64
