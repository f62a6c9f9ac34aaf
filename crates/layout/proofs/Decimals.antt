-- Each float constant is the decimal of the source. Assumes nothing.
use Rattle.std.proofs.Common.{refl}
use lib.Ieee.{of_bits, of_int, div, round}
use Rattle.layout.specs.Constants.{Decimals}

pub decimals : Decimals
unfolding of_bits of_int div round
decimals = record { is-0·3 = refl; is_1 = refl; is_2 = refl; is-2·5 = refl; is_8 = refl; is_16 = refl; is_32 = refl; is_40 = refl; is_48 = refl; is_80 = refl; is-0·15 = refl; is-4/3 = refl }
