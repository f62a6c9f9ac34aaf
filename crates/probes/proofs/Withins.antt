-- The constants f32::NAN and f64::NAN are the not-a-number of the definitions.
use mathlib.Core.Path.{◌≡◌, refl}
use lib.Ieee.{binary32, binary64, of_bits, nan}

pub nan_of32 : of_bits binary32 2143289344 ≡ nan
unfolding of_bits
nan_of32 = refl

pub nan_of64 : of_bits binary64 9221120237041090560 ≡ nan
unfolding of_bits
nan_of64 = refl
