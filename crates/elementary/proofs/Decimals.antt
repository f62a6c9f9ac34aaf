-- Each constant of `specs/Constants.antt` is the decimal that it stands for. Assumes nothing.
use Rattle.std.proofs.Common.{◌≡◌, ◌^◌, true, false, pos, negsuc, refl}
use lib.Ieee.{fin, binary32, binary64, neg, round, of_bits}
use Rattle.elementary.specs.Constants.{zero+, unit, zero64, minus87, least, most, pi}

-- ---- as the nearest value to the decimal
pub zero_decimal : zero+ ≡ round binary32 false 0 1
unfolding of_bits round
zero_decimal = refl

pub unit_decimal : unit ≡ round binary32 false 1 1
unfolding of_bits round
unit_decimal = refl

pub zero64_decimal : zero64 ≡ round binary64 false 0 1
unfolding of_bits round
zero64_decimal = refl

pub minus87_decimal : minus87 ≡ round binary32 true 87 1
unfolding of_bits neg round
minus87_decimal = refl

pub least_decimal : least ≡ round binary32 false 1 (10 ^ 30)
unfolding of_bits round
least_decimal = refl

pub most_decimal : most ≡ round binary64 false 512 1
unfolding of_bits round
most_decimal = refl

pub pi_decimal : pi ≡ round binary64 false 314159265358979323846264338327950288 (10 ^ 35)
unfolding of_bits round
pi_decimal = refl

pub least_is : least ≡ fin false 332307 (negsuc 117)
unfolding of_bits
least_is = refl
