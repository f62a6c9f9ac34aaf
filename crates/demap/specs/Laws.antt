-- What the callers may count on, as statements: `proofs/Laws.antt` proves them.
use Rattle.std.specs.Prelude.{ℕ, ◌^◌, ◌≤◌, ◌<◌, ◌≡◌, false, List, T, length, Float}
use Rattle.std.specs.Float.{inf, binary32}
use Rattle.std.specs.Float.Ieee.{neg, le, round}
use Rattle.ieee.specs.Num.{◌⧄◌, zero32, one32}
use Rattle.ieee.specs.Order.{is_finite}
use Rattle.elementary.specs.Constants.{least}
use Rattle.points.specs.Table.{point_at}
use Rattle.demap.specs.declared.metrics.Cell.{Cell}
use Rattle.demap.specs.Demap.{at, lowest, limit, metric_of, likelihoods}

-- whenever every point's metric is finite, every likelihood lies in -40..40, and so is a number
unfoldable pub Within : Type 0
Within =
    (c : Cell) (pts : List Float) (bps : ℕ) → bps ≤ 6
    → ((k : ℕ) → k < 2 ^ bps → T (is_finite (metric_of c (point_at pts k))))
    → (b : ℕ) → b < bps → T (le (neg limit) (at (likelihoods c pts bps) b)) × T (le (at (likelihoods c pts bps) b) limit)

-- one likelihood a bit
unfoldable pub OneEach : Type 0
OneEach = (c : Cell) (pts : List Float) (bps : ℕ) → length (likelihoods c pts bps) ≡ bps

-- the constants are those of the source, the decimals rounded to the nearest
pub record Constants : Type 0 where
  pub floor : least ≡ round binary32 false 1 (10 ^ 30)
  pub forty : limit ≡ round binary32 false 40 1
  pub minus_infinity : neg one32 ⧄ zero32 ≡ lowest
  pub infinity : one32 ⧄ zero32 ≡ inf false
