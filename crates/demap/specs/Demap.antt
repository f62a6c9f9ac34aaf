-- est.rs, `demap`, line by line. The source finds m0 and m1 in one loop and s0 and s1 in another; here `bit` says which
-- of the two.
use Rattle.std.specs.Prelude.{ℕ, ◌^◌, cond, true, List, ◌++◌, eqb, get_or, drop, Float}
use Rattle.std.specs.Float.{nan, inf, binary32}
use Rattle.std.specs.Float.Ieee.{of_bits, neg}
use Rattle.seq.specs.Loop.{for}
use Rattle.seq.specs.Tab.{tab}
use Rattle.ieee.specs.Num.{◌⊞◌, ◌⊟◌, ◌⊠◌, ◌⧄◌, zero32}
use Rattle.ieee.specs.Order.{max_of, clamp_of}
use Rattle.elementary.specs.Constants.{least}
use Rattle.elementary.specs.Exp.{exp_at}
use Rattle.elementary.specs.Ln.{ln_at}
use Rattle.dsp.specs.declared.Complex.{Complex}
use Rattle.dsp.specs.Arithmetic.{◌-ᶜ◌, ◌*ᶜ◌, norm_sqr}
use Rattle.points.specs.Table.{point_at}
use Rattle.soft.specs.Soft.{bit_of}
use Rattle.soft.specs.Tree.{page}
use Rattle.demap.specs.declared.metrics.Cell.{Cell}

-- ---- the metric of a point

-- (y - h * x).norm_sqr()
unfoldable pub distance_of : Complex → Complex → Complex → Float
distance_of y h x = norm_sqr (y -ᶜ h *ᶜ x)

-- v = (sigma2 + mse * x.norm_sqr()).max(1e-30)
unfoldable pub variance_of : Cell → Complex → Float
variance_of c x = max_of (c.sigma2 ⊞ c.mse ⊠ norm_sqr x) least

-- *dk = -(y - h * x).norm_sqr() / v - v.ln()
unfoldable pub metric_of : Cell → Complex → Float
metric_of c x = neg (distance_of c.y c.h x) ⧄ variance_of c x ⊟ ln_at (variance_of c x)

-- let mut d = [0f32; 64]; for (k, dk) in d.iter_mut().enumerate().take(m), with x = pts.pts[k]
unfoldable pub metrics_of : Cell → List Float → ℕ → List Float
metrics_of c pts bps = tab (2 ^ bps) (λ k. metric_of c (point_at pts k)) ++ drop (2 ^ bps) page

-- ---- the likelihood of a bit

abbrev pub at : List Float → ℕ → Float
at d k = get_or d k nan

-- f32::NEG_INFINITY
abbrev pub lowest : Float
lowest = inf true

-- if (k >> shift) & 1 == 0 { m0 = m0.max(dk) } else { m1 = m1.max(dk) }, with shift = bps - 1 - b
unfoldable pub top_turn : List Float → ℕ → ℕ → ℕ → ℕ → Float → Float
top_turn d bps b bit k m = cond (eqb (bit_of bps k b) bit) (max_of m (at d k)) m

unfoldable pub top_of : List Float → ℕ → ℕ → ℕ → Float
top_of d bps b bit = for 0 (2 ^ bps) (top_turn d bps b bit) lowest

-- if (k >> shift) & 1 == 0 { s0 += (dk - m0).exp() } else { s1 += (dk - m1).exp() }
unfoldable pub sum_turn : List Float → ℕ → ℕ → ℕ → Float → ℕ → Float → Float
sum_turn d bps b bit m k s = cond (eqb (bit_of bps k b) bit) (s ⊞ exp_at (at d k ⊟ m)) s

unfoldable pub sum_of : List Float → ℕ → ℕ → ℕ → Float
sum_of d bps b bit = for 0 (2 ^ bps) (sum_turn d bps b bit (top_of d bps b bit)) zero32

-- m0 + s0.ln(), and m1 + s1.ln()
unfoldable pub side_of : List Float → ℕ → ℕ → ℕ → Float
side_of d bps b bit = top_of d bps b bit ⊞ ln_at (sum_of d bps b bit)

-- LLR_MAX
abbrev pub limit : Float
limit = of_bits binary32 0x4220_0000

-- *o = l.clamp(-LLR_MAX, LLR_MAX), with l = (m0 + s0.ln()) - (m1 + s1.ln())
unfoldable pub likelihood_of : List Float → ℕ → ℕ → Float
likelihood_of d bps b = clamp_of (side_of d bps b 0 ⊟ side_of d bps b 1) (neg limit) limit

-- for (b, o) in out.iter_mut().enumerate().take(pts.bps)
unfoldable pub likelihoods : Cell → List Float → ℕ → List Float
likelihoods c pts bps = tab bps (likelihood_of (metrics_of c pts bps) bps)
