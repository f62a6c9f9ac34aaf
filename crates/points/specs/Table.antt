-- 64 points in a flat table: re, im, re, im, ..
use Rattle.std.specs.Prelude.{ℕ, ◌+◌, ◌*◌, List, get_or, set, replicate, Float}
use Rattle.std.specs.Float.{nan}
use Rattle.ieee.specs.Num.{zero32}
use Rattle.dsp.specs.declared.Complex.{Complex}
use Rattle.dsp.specs.Arithmetic.{complex}

-- [Complex::ZERO; 64]
unfoldable pub blank : List Float
blank = replicate 128 zero32

-- pts[k], and pts[k] = x
abbrev pub point_at : List Float → ℕ → Complex
point_at pts k = complex (get_or pts (2 * k) nan) (get_or pts (2 * k + 1) nan)

abbrev pub put_at : List Float → ℕ → Complex → List Float
put_at pts k x = set (set pts (2 * k) x.re) (2 * k + 1) x.im
