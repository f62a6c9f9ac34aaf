-- est.rs, `fde`, line by line, for m carriers.
use Rattle.std.specs.Prelude.{ℕ, List, Float}
use Rattle.seq.specs.Loop.{for}
use Rattle.seq.specs.Cat.{cat}
use Rattle.ieee.specs.Num.{◌⊞◌, ◌⊟◌, ◌⊠◌, zero32}
use Rattle.dsp.specs.declared.Complex.{Complex}
use Rattle.dsp.specs.Arithmetic.{norm_sqr, ◌*ᶜ◌}
use Rattle.dsp.specs.Flat.{complex_at, flat}
use Rattle.spread.specs.Spreader.{inverse_of}
use Rattle.equalize.specs.declared.equalizer.FdeSums.{FdeSums}
use Rattle.equalize.specs.declared.filter.Equalized.{Equalized}
use Rattle.equalize.specs.Answer.{Answer}
use Rattle.equalize.specs.Filter.{at, channel_of, filter_of, passed_of, mean_of, mu_of, floored_of}

-- let (mut mu, mut p) = (0f32, 0f32)
abbrev pub none : FdeSums
none = record { mu = zero32; p = zero32 }

-- mu += wg; p += wg * wg + w.norm_sqr() * v[j]
unfoldable pub added : FdeSums → Complex → Complex → Float → FdeSums
added s g w v = let wg = passed_of w g in record { mu = s.mu ⊞ wg; p = s.p ⊞ (wg ⊠ wg ⊞ norm_sqr w ⊠ v) }

-- let mu = (mu / m).max(1e-6); let var = (p / m - mu * mu).max(1e-3 * mu * mu)
unfoldable pub result_of : ℕ → FdeSums → Equalized
result_of m s = let mu = mu_of s.mu m in record { mu = mu; var = floored_of (mean_of s.p m ⊟ mu ⊠ mu) mu }

module _ (h v : List Float) (gain : Float) where
  -- w, with e = g.norm_sqr()
  unfoldable pub weight : ℕ → Complex
  weight j = let g = channel_of h gain j in filter_of g (norm_sqr g ⊞ at v j)

  -- a turn of the loop, on the sums
  unfoldable pub turn : ℕ → FdeSums → FdeSums
  turn j s = added s (channel_of h gain j) (weight j) (at v j)

  -- z[j] = w * y[j]
  unfoldable pub filtered : List Float → ℕ → Complex
  filtered y j = weight j *ᶜ complex_at y j

-- for j in 0..y.len()
unfoldable pub carriers_of : ℕ → List Float → List Float → List Float → Float → Answer FdeSums
carriers_of m y h v gain = record { result = for 0 m (turn h v gain) none; z = cat m (λ j. flat (filtered h v gain y j)) }

-- (mu, var), and z as sp.inverse(z) leaves it
unfoldable pub fde_of : ℕ → List Float → List Float → List Float → List Float → Float → Answer Equalized
fde_of m tw y h v gain = let a = carriers_of m y h v gain in record { result = result_of m a.result; z = inverse_of m tw a.z }
