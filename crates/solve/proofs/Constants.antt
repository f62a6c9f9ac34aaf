-- The two constants are the decimals of the source, to the nearest f64. Assumes nothing.
use Prim.Native.Nat.{◌^◌}
use mathlib.Core.Bool.{false}
use mathlib.Core.Path.{◌≡◌, refl}
use lib.Ieee.{binary64, of_bits, round}
use Rattle.solve.specs.Solve.{e_12, e_300}

pub e_12_is : e_12 ≡ round binary64 false 1 (10 ^ 12)
unfolding of_bits round
e_12_is = refl

pub e_300_is : e_300 ≡ round binary64 false 1 (10 ^ 300)
unfolding of_bits round
e_300_is = refl
