-- The float constants, computed. Assumes nothing.
use mathlib.Core.Path.{refl}
use lib.Ieee.{of_bits, round}
use Rattle.points.specs.Laws.{Constants}

pub constants : Constants
unfolding of_bits round
constants = record { root2 = refl; pi4 = refl; one = refl; two = refl; three = refl; eight = refl }
