-- The constants are those of the source. Assumes nothing.
use mathlib.Core.Path.{refl}
use lib.Ieee.{neg, div, of_bits, round}
use Rattle.elementary.proofs.Decimals.{least_decimal}
use Rattle.demap.specs.Laws.{Constants}

pub constants : Constants
unfolding neg div of_bits round
constants = record { floor = least_decimal; forty = refl; minus_infinity = refl; infinity = refl }
