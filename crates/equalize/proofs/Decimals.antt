-- The float constants are the decimals of the source.
use mathlib.Core.Path.{refl}
use lib.Ieee.{of_bits, round}
use Rattle.equalize.specs.Laws.{Constants}

pub constants : Constants
unfolding of_bits round
constants = record { power = refl; gain = refl; variance = refl }
