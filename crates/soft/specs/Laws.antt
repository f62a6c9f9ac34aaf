-- What the callers may count on, as statements: `proofs/Laws.antt` proves them.
use Rattle.std.specs.Prelude.{ℕ, ◌<◌, ◌≡◌, not, false, List, T, get_or, take, Float}
use Rattle.std.specs.Float.{nan, binary32}
use Rattle.std.specs.Float.Ieee.{round, lt, le}
use Rattle.ieee.specs.Num.{zero32}
use Rattle.soft.specs.Soft.{limit, soft_min, log_probability, soft_point}

pub record SoftLaws : Type 0 where
  -- a soft point depends on the bps numbers of its part alone
  pub own : (llr llr' pts : List Float) (bps : ℕ) → ((b : ℕ) → b < bps → get_or llr b nan ≡ get_or llr' b nan) → soft_point llr pts bps ≡ soft_point llr' pts bps
  pub part : (llr pts : List Float) (bps : ℕ) → soft_point llr pts bps ≡ soft_point (take bps llr) pts bps
  -- so that `exp` may be asked for it, whatever the priors
  pub not_above : (llr : List Float) (bps k : ℕ) → T (not (lt zero32 (log_probability llr bps k)))
  -- a number, and not below zero
  pub variance : (llr pts : List Float) (bps : ℕ) → T (le zero32 (soft_point llr pts bps).var)

-- the constants are the decimals of the source, rounded to the nearest
pub record Constants : Type 0 where
  pub thirty : limit ≡ round binary32 false 30 1
  pub tenth : soft_min ≡ round binary32 false 1 10
