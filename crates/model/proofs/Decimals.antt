-- The float constants are the numbers of the source.
use Rattle.std.proofs.Common.{◌≡◌, ◌^◌, false, refl}
use lib.Ieee.{inf, binary64, of_bits, round, div}
use Rattle.model.specs.Constants.{e_30, ten, infinity}

e_30_is : e_30 ≡ round binary64 false 1 (10 ^ 30)
unfolding of_bits round
e_30_is = refl

ten_is : ten ≡ round binary64 false 10 1
unfolding of_bits round
ten_is = refl

infinity_is : infinity ≡ inf false
unfolding of_bits div
infinity_is = refl
