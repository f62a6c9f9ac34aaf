-- Document 01's printed lines are what the definitions give. Assumes nothing.
use mathlib.Core.Path.{refl}
use lib.Ieee.{to_bits}
use Rattle.burst.specs.Digits.{digit_of, digits, decimal, pair_of, hex8}
use Rattle.burst.specs.Lines.{shown_zero, model_of, heading_of, line_of, refused_of}
use Rattle.burst.specs.Printed.{AsPrinted}

pub as_printed : AsPrinted
unfolding digit_of digits decimal pair_of hex8 shown_zero model_of heading_of line_of refused_of to_bits
as_printed = record { heading = refl; zero = refl; minus_zero_lem = refl; not_a_number = refl; refused = refl }
