-- A list of complex numbers as a flat list of floats: re, im, re, im, ..
use Rattle.std.specs.Prelude.{ℕ, ◌+◌, ◌*◌, List, [], ◌∷◌, slice_index_or, slice_set}
use Rattle.std.specs.Prelude.{Float}
use Rattle.std.specs.Float.{nan}
use Rattle.dsp.specs.declared.Complex.{Complex}
use Rattle.dsp.specs.Arithmetic.{complex}

-- complex number k of the list
abbrev pub complex_at : List Float → ℕ → Complex
complex_at xs k = complex (slice_index_or xs (2 * k) nan) (slice_index_or xs (2 * k + 1) nan)

-- the list with z in the place of complex number k
abbrev pub put_at : List Float → ℕ → Complex → List Float
put_at xs k z = slice_set (slice_set xs (2 * k) z.re) (2 * k + 1) z.im

-- the stretch of one
abbrev pub flat : Complex → List Float
flat z = z.re ∷ z.im ∷ []
