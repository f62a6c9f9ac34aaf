-- The lines that est.rs, `fde`, and refine.rs, `sic`, share.
use Rattle.std.specs.Prelude.{ℕ, List, get_or, Float}
use Rattle.std.specs.Float.{binary32, nan}
use Rattle.std.specs.Float.Ieee.{of_bits}
use Rattle.ieee.specs.Num.{◌⊠◌, ◌⧄◌, one32, f32_of}
use Rattle.ieee.specs.Order.{max_of}
use Rattle.elementary.specs.Constants.{least}
use Rattle.dsp.specs.declared.Complex.{Complex}
use Rattle.dsp.specs.Arithmetic.{conjᶜ, scaleᶜ, ◌*ᶜ◌}
use Rattle.dsp.specs.Flat.{complex_at}

-- 1e-6 and 1e-3; least is 1e-30
abbrev pub e_6 : Float
e_6 = of_bits binary32 0x3586_37bd

abbrev pub e_3 : Float
e_3 = of_bits binary32 0x3a83_126f

abbrev pub at : List Float → ℕ → Float
at v j = get_or v j nan

-- g = h[j].scale(gain)
unfoldable pub channel_of : List Float → Float → ℕ → Complex
channel_of h gain j = scaleᶜ (complex_at h j) gain

-- w = g.conj().scale(1.0 / d.max(1e-30)): d is e + v[j] in fde, vx * e + v[j] in sic
unfoldable pub filter_of : Complex → Float → Complex
filter_of g d = scaleᶜ (conjᶜ g) (one32 ⧄ max_of d least)

-- wg = (w * g).re
unfoldable pub passed_of : Complex → Complex → Float
passed_of w g = (w *ᶜ g).re

-- mu / m, p / m, q / m
unfoldable pub mean_of : Float → ℕ → Float
mean_of sum m = sum ⧄ f32_of m

-- mu = (mu / m).max(1e-6)
unfoldable pub mu_of : Float → ℕ → Float
mu_of sum m = max_of (mean_of sum m) e_6

-- var = (..).max(1e-3 * mu * mu)
unfoldable pub floored_of : Float → Float → Float
floored_of var mu = max_of var (e_3 ⊠ mu ⊠ mu)
