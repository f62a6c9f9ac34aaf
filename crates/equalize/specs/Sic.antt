-- refine.rs, `sic`, line by line, for m carriers.
use Rattle.std.specs.Prelude.{ℕ, ◌-◌, ◌*◌, List, ◌++◌, replicate, Float}
use Rattle.seq.specs.Loop.{for}
use Rattle.seq.specs.Cat.{cat}
use Rattle.ieee.specs.Num.{◌⊞◌, ◌⊟◌, ◌⊠◌, zero32}
use Rattle.dsp.specs.declared.Complex.{Complex}
use Rattle.dsp.specs.Arithmetic.{norm_sqr, scaleᶜ, ◌+ᶜ◌, ◌-ᶜ◌, ◌*ᶜ◌}
use Rattle.dsp.specs.Flat.{complex_at, flat}
use Rattle.spread.specs.Spreader.{forward_of, inverse_of}
use Rattle.equalize.specs.declared.canceller.SicSums.{SicSums}
use Rattle.equalize.specs.declared.filter.Equalized.{Equalized}
use Rattle.equalize.specs.Answer.{Answer}
use Rattle.equalize.specs.Filter.{at, channel_of, filter_of, passed_of, mean_of, mu_of, floored_of}

-- xs.copy_from_slice(xm); sp.forward(xs), in room for 109
unfoldable pub spread_of : ℕ → List Float → List Float → List Float
spread_of m tw xm = forward_of m tw xm ++ replicate (218 - 2 * m) zero32

-- let (mut mu, mut p, mut q) = (0f32, 0f32, 0f32)
abbrev pub none : SicSums
none = record { mu = zero32; p = zero32; q = zero32 }

-- mu += wg; p += wg * wg; q += w.norm_sqr() * v[j]
unfoldable pub added : SicSums → Complex → Complex → Float → SicSums
added s g w v = let wg = passed_of w g in record { mu = s.mu ⊞ wg; p = s.p ⊞ wg ⊠ wg; q = s.q ⊞ norm_sqr w ⊠ v }

module _ (h v : List Float) (gain vx : Float) where
  -- w, with e = g.norm_sqr()
  unfoldable pub weight : ℕ → Complex
  weight j = let g = channel_of h gain j in filter_of g (vx ⊠ norm_sqr g ⊞ at v j)

  -- a turn of the loop, on the sums
  unfoldable pub turn : ℕ → SicSums → SicSums
  turn j s = added s (channel_of h gain j) (weight j) (at v j)

  -- z[j] = w * (y[j] - g * xs[j])
  unfoldable pub filtered : List Float → List Float → ℕ → Complex
  filtered y xs j = weight j *ᶜ (complex_at y j -ᶜ channel_of h gain j *ᶜ complex_at xs j)

-- for j in 0..y.len()
unfoldable pub carriers_of : ℕ → List Float → List Float → List Float → Float → List Float → Float → Answer SicSums
carriers_of m y h v gain xs vx = record { result = for 0 m (turn h v gain vx) none; z = cat m (λ j. flat (filtered h v gain vx y xs j)) }

-- let mu = (mu / m).max(1e-6); let var = (vx * (p / m - mu * mu) + q / m).max(1e-3 * mu * mu)
unfoldable pub result_of : ℕ → Float → SicSums → Equalized
result_of m vx s =
    let mu = mu_of s.mu m in
    record { mu = mu; var = floored_of (vx ⊠ (mean_of s.p m ⊟ mu ⊠ mu) ⊞ mean_of s.q m) mu }

-- *zj += x.scale(mu)
unfoldable pub restored_at : Float → List Float → List Float → ℕ → Complex
restored_at mu xm z j = complex_at z j +ᶜ scaleᶜ (complex_at xm j) mu

-- for (zj, &x) in z.iter_mut().zip(xm)
unfoldable pub restored : ℕ → Float → List Float → List Float → List Float
restored m mu xm z = cat m (λ j. flat (restored_at mu xm z j))

-- (mu, var), and z as sp.inverse(z) and the loop after it leave it
unfoldable pub sic_of : ℕ → List Float → List Float → List Float → List Float → Float → List Float → Float → Answer Equalized
sic_of m tw y h v gain xm vx =
    let a = carriers_of m y h v gain (forward_of m tw xm) vx in
    let r = result_of m vx a.result in
    record { result = r; z = restored m r.mu xm (inverse_of m tw a.z) }
