-- The gain of code q, the f32 nearest 10 ^ (3 q / 80): `Laws` says that each of these is.
use Rattle.std.specs.Prelude.{ℕ, zero, suc, from_bits, Float}
use Rattle.std.specs.Float.{binary32}

abbrev pub gain_at : ℕ → Float
gain_at zero = from_bits binary32 0x3f80_0000
gain_at (suc zero) = from_bits binary32 0x3f8b_8b2a
gain_at (suc (suc zero)) = from_bits binary32 0x3f98_20d7
gain_at (suc (suc (suc q))) = from_bits binary32 0x3fa5_d910
