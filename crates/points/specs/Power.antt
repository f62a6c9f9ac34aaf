-- refine.rs, `refine`: the scaled points `pts_s` and the mean energy `es`.
use Rattle.std.specs.Prelude.{ℕ, ◌^◌, List, Float}
use Rattle.std.specs.Float.Ieee.{neg}
use Rattle.seq.specs.Loop.{for}
use Rattle.ieee.specs.Num.{◌⊞◌, ◌⊠◌, ◌⧄◌, zero32, f32_of}
use Rattle.dsp.specs.Arithmetic.{scaleᶜ, norm_sqr}
use Rattle.points.specs.Table.{point_at, put_at}

-- *v = v.scale(gain)
unfoldable pub scale_turn : Float → ℕ → List Float → List Float
scale_turn gain k pts = put_at pts k (scaleᶜ (point_at pts k) gain)

-- for v in pts_s.pts.iter_mut()
unfoldable pub scaled_of : List Float → Float → List Float
scaled_of pts gain = for 0 64 (scale_turn gain) pts

-- -0.0, from which Rust's `sum` of floats starts
abbrev pub minus_zero : Float
minus_zero = neg zero32

unfoldable pub energy_turn : List Float → ℕ → Float → Float
energy_turn pts k sum = sum ⊞ norm_sqr (point_at pts k)

-- pts.pts[..pts.count()].iter().map(|p| p.norm_sqr()).sum::<f32>()
unfoldable pub energy_of : List Float → ℕ → Float
energy_of pts bps = for 0 (2 ^ bps) (energy_turn pts) minus_zero

-- es = g2 * sum / pts.count() as f32, with g2 = gain * gain
unfoldable pub mean_energy_of : List Float → ℕ → Float → Float
mean_energy_of pts bps gain = gain ⊠ gain ⊠ energy_of pts bps ⧄ f32_of (2 ^ bps)
