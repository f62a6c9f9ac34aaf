-- What the callers may count on, as statements: `proofs/Laws.antt`, `proofs/Constants.antt` and `proofs/Scaling.antt`
-- prove them.
use Rattle.std.specs.Prelude.{ℕ, ◌^◌, ◌≤◌, ◌<◌, ◌≡◌, List, false, T, length, get_or, Float}
use Rattle.std.specs.Float.{nan, binary32, binary64}
use Rattle.std.specs.Float.Ieee.{round}
use Rattle.ieee.specs.Num.{one32}
use Rattle.ieee.specs.Order.{is_finite}
use Rattle.dsp.specs.Arithmetic.{scaleᶜ}
use Rattle.points.specs.Table.{point_at}
use Rattle.points.specs.Constellation.{two32, three32, eight64, frac_root2, frac_pi4, bps_of, points_of}
use Rattle.points.specs.Power.{scaled_of}

-- two to six bits, so at most 64 points, in a table of 128 numbers, each of which is finite
pub record PointsLaws (code : ℕ) : Type 0 where
  pub bits : (points_of code).bps ≡ bps_of code
  pub fewest : 2 ≤ bps_of code
  pub most : bps_of code ≤ 6
  pub count : 2 ^ bps_of code ≤ 64
  pub whole : length (points_of code).pts ≡ 128
  pub finite : (i : ℕ) → i < 128 → T (is_finite (get_or (points_of code).pts i nan))

-- a table scaled has each of its points scaled
pub record ScaledLaws (pts : List Float) (gain : Float) : Type 0 where
  pub whole : length (scaled_of pts gain) ≡ length pts
  pub point : length pts ≡ 128 → (k : ℕ) → k < 64 → point_at (scaled_of pts gain) k ≡ scaleᶜ (point_at pts k) gain

-- the constants are the decimals of the source, rounded to the nearest
pub record Constants : Type 0 where
  pub root2 : frac_root2 ≡ round binary32 false 707106781186547524400844362104849039 (10 ^ 36)
  pub pi4 : frac_pi4 ≡ round binary64 false 785398163397448309615660845819875721 (10 ^ 36)
  pub one : one32 ≡ round binary32 false 1 1
  pub two : two32 ≡ round binary32 false 2 1
  pub three : three32 ≡ round binary32 false 3 1
  pub eight : eight64 ≡ round binary64 false 8 1
