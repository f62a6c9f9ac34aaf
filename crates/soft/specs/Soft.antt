-- refine.rs, `softplus`, `soft_point` and the test by SOFT_MIN, line by line.
use Rattle.std.specs.Prelude.{ℕ, ◌-◌, ◌/◌, ◌%◌, ◌^◌, Bool, cond, List, eqb, get_or, Float}
use Rattle.std.specs.Float.{nan, binary32}
use Rattle.std.specs.Float.Ieee.{of_bits, neg, lt, le}
use Rattle.seq.specs.Loop.{for}
use Rattle.ieee.specs.Num.{◌⊞◌, ◌⊟◌, ◌⊠◌, zero32}
use Rattle.ieee.specs.Order.{max_of, clamp_of}
use Rattle.elementary.specs.Exp.{exp_at}
use Rattle.elementary.specs.Ln.{ln1p_at}
use Rattle.dsp.specs.declared.Complex.{Complex}
use Rattle.dsp.specs.Arithmetic.{zeroᶜ, ◌+ᶜ◌, scaleᶜ, norm_sqr}
use Rattle.points.specs.Table.{point_at}
use Rattle.soft.specs.declared.moments.Moments.{Moments}
use Rattle.soft.specs.declared.moments.Soft.{Soft}

-- ---- softplus

-- if x > 0.0 { x + (-x).exp().ln_1p() } else { x.exp().ln_1p() }
unfoldable pub softplus_of : Float → Float
softplus_of x = cond (lt zero32 x) (x ⊞ ln1p_at (exp_at (neg x))) (ln1p_at (exp_at x))

-- ---- soft_point

-- 30.0
abbrev pub limit : Float
limit = of_bits binary32 0x41f0_0000

-- lam.clamp(-30.0, 30.0)
unfoldable pub prior_at : List Float → ℕ → Float
prior_at llr b = clamp_of (get_or llr b nan) (neg limit) limit

-- (k >> (bps - 1 - b)) & 1
abbrev pub bit_of : ℕ → ℕ → ℕ → ℕ
bit_of bps k b = k / 2 ^ (bps - 1 - b) % 2

-- softplus(if bit == 0 { -lam } else { lam })
unfoldable pub cost_of : Float → ℕ → Float
cost_of lam bit = softplus_of (cond (eqb bit 0) (neg lam) lam)

-- lp -= ..
unfoldable pub bit_turn : List Float → ℕ → ℕ → ℕ → Float → Float
bit_turn llr bps k b lp = lp ⊟ cost_of (prior_at llr b) (bit_of bps k b)

-- let mut lp = 0f32; for (b, &lam) in llr.iter().enumerate().take(bps), of at least bps numbers
unfoldable pub log_probability : List Float → ℕ → ℕ → Float
log_probability llr bps k = for 0 bps (bit_turn llr bps k) zero32

-- mu += x.scale(p); e2 += p * x.norm_sqr();
unfoldable pub added : Moments → Complex → Float → Moments
added s x p = record { mu = s.mu +ᶜ scaleᶜ x p; e2 = s.e2 ⊞ p ⊠ norm_sqr x }

-- with p = lp.exp()
unfoldable pub point_turn : List Float → List Float → ℕ → ℕ → Moments → Moments
point_turn llr pts bps k s = added s (point_at pts k) (exp_at (log_probability llr bps k))

-- (Complex::ZERO, 0f32)
abbrev pub nothing : Moments
nothing = record { mu = zeroᶜ; e2 = zero32 }

-- for (k, &x) in pts.pts[..pts.count()].iter().enumerate()
unfoldable pub moments_of : List Float → List Float → ℕ → Moments
moments_of llr pts bps = for 0 (2 ^ bps) (point_turn llr pts bps) nothing

-- (mu, (e2 - mu.norm_sqr()).max(0.0))
unfoldable pub soft_of : Moments → Soft
soft_of s = record { mean = s.mu; var = max_of (s.e2 ⊟ norm_sqr s.mu) zero32 }

unfoldable pub soft_point : List Float → List Float → ℕ → Soft
soft_point llr pts bps = soft_of (moments_of llr pts bps)

-- ---- refine

-- SOFT_MIN
abbrev pub soft_min : Float
soft_min = of_bits binary32 0x3dcc_cccd

-- x.norm_sqr() >= SOFT_MIN * es
unfoldable pub loud_of : Complex → Float → Bool
loud_of x es = le (soft_min ⊠ es) (norm_sqr x)
