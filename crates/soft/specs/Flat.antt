-- A list of soft points as a flat list of floats: re, im, variance, re, im, variance, ..
use Rattle.std.specs.Prelude.{ℕ, ◌+◌, ◌*◌, List, get_or, set, Float}
use Rattle.std.specs.Float.{nan}
use Rattle.dsp.specs.Arithmetic.{complex}
use Rattle.soft.specs.declared.moments.Soft.{Soft}

-- soft point i of the list
abbrev pub soft_in : List Float → ℕ → Soft
soft_in xs i = record { mean = complex (get_or xs (3 * i) nan) (get_or xs (3 * i + 1) nan); var = get_or xs (3 * i + 2) nan }

-- the list with s in the place of soft point i
abbrev pub put_soft : List Float → ℕ → Soft → List Float
put_soft xs i s = set (set (set xs (3 * i) s.mean.re) (3 * i + 1) s.mean.im) (3 * i + 2) s.var
