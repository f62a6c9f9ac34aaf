-- What callers may count on, as statements. `proofs/Laws.antt`, `proofs/NearestGain.antt` and `proofs/NoBorrow.antt`
-- prove them.
use Rattle.std.specs.Prelude.{◌≡◌, ℕ, ◌+◌, ◌-◌, ◌*◌, ◌/◌, ◌^◌, ◌<◌, ◌≤◌, Bool, true, false, T, ℤ, pos, Float}
use Rattle.std.specs.Float.{nan, inf, fin, binary32}
use Rattle.std.specs.Float.Ieee.{up, down, size, le}
use Rattle.ieee.specs.Nearest.{NearestRoot}
use Rattle.elementary.specs.Constants.{zero+, unit, least}
use Rattle.elementary.specs.Domain.{Number, NotAbove, FromLeast, InUnit, InTurns}
use Rattle.elementary.specs.FixedPoint.{M, L, B}
use Rattle.elementary.specs.Exp.{exp_at}
use Rattle.elementary.specs.Ln.{ln_at, ln1p_at}
use Rattle.elementary.specs.Circular.{H, sin_at, cos_at}
use Rattle.elementary.specs.Gain.{gain_at}

pub record ExpLaws : Type 0 where
  -- it lies in 0..1
  pub low : (x : Float) → Number x → T (le zero+ (exp_at x))
  pub high : (x : Float) → Number x → T (le (exp_at x) unit)
  pub at_zero : (s : Bool) → exp_at (fin s 0 (pos 0)) ≡ unit
  pub at_88 : exp_at (fin true 11 (pos 3)) ≡ zero+
  pub at_infinity : exp_at (inf true) ≡ zero+
  pub at_nan : exp_at nan ≡ nan
  pub number : (x : Float) → Number x → Number (exp_at x)
  -- it may be asked for what is not above 0, for the infinity below and for a NaN
  pub asked : (x : Float) → T (le x zero+) → NotAbove x
  pub asked_infinity : NotAbove (inf true)
  pub asked_nan : NotAbove nan
  -- ln_1p may be asked for what it answers, a NaN too
  pub within : (x : Float) → InUnit (exp_at x)

pub record LnLaws : Type 0 where
  -- not negative from 1 on
  pub low : (v : Float) → T (le unit v) → T (le zero+ (ln_at v))
  pub at_one : ln_at unit ≡ zero+
  pub at_infinity : ln_at (inf false) ≡ inf false
  pub at_nan : ln_at nan ≡ nan
  pub number : (v : Float) → Number v → Number (ln_at v)
  -- it may be asked for each v from 1e-30 on, so from 1 on, and for a NaN
  pub asked : (v : Float) → T (le least v) → FromLeast v
  pub asked_from_one : (v : Float) → T (le unit v) → FromLeast v
  pub asked_nan : FromLeast nan

pub record Ln1pLaws : Type 0 where
  pub low : (t : Float) → Number t → InUnit t → T (le zero+ (ln1p_at t))
  pub at_zero : (s : Bool) → ln1p_at (fin s 0 (pos 0)) ≡ zero+
  pub at_nan : ln1p_at nan ≡ nan
  pub number : (t : Float) → Number t → Number (ln1p_at t)
  pub asked : (t : Float) → T (le zero+ t) → T (le t unit) → InUnit t

pub record SinLaws : Type 0 where
  -- -0 is not negative, and gives +0 too
  pub at_zero : (s : Bool) → sin_at (fin s 0 (pos 0)) ≡ fin false 0 (pos 0)
  pub at_nan : sin_at nan ≡ nan
  pub number : (p : Float) → Number p → InTurns p → Number (sin_at p)

pub record CosLaws : Type 0 where
  pub at_zero : (s : Bool) → cos_at (fin s 0 (pos 0)) ≡ fin false 1 (pos 0)
  pub at_nan : cos_at nan ≡ nan
  pub number : (p : Float) → Number p → InTurns p → Number (cos_at p)

-- the gain of code q is the f32 nearest the number whose 80th power is 10 ^ (3 q)
pub record GainLaws : Type 0 where
  pub nearest : (q : ℕ) → q ≤ 3 → NearestRoot binary32 80 (10 ^ (3 * q)) 1 (gain_at q)

-- The recipes subtract whole numbers, the definitions natural ones, which end at 0. They mean the same, as no
-- difference takes more than there is.
-- (The turn j = 1 of c may, and is said apart in `Circular`.)
pub record NoBorrow : Type 0 where
  -- Q - n L, Q - q H, and what is left is below L and H
  pub exp_rest : (Q : ℕ) → Q / L * L ≤ Q
  pub exp_left : (Q : ℕ) → Q - Q / L * L < L
  pub circle_rest : (Q : ℕ) → Q / H * H ≤ Q
  pub circle_left : (Q : ℕ) → Q - Q / H * H < H
  -- M - ..: a turn takes at most M, and leaves at most M for the next
  pub exp_turn_lem : (j f P : ℕ) → f < L → P ≤ M → f * P / M / j ≤ M
  -- B - ..: the same, with F at most 3 B
  pub square : (f : ℕ) → f < H → f * f / B ≤ 3 * B
  pub sin_turn_lem : (j F s : ℕ) → 1 ≤ j → F ≤ 3 * B → s ≤ B → F * s / B / (2 * j * (2 * j + 1)) ≤ B
  pub cos_turn_lem : (j F c : ℕ) → 2 ≤ j → F ≤ 3 * B → c ≤ B → F * c / B / ((2 * j - 1) * (2 * j)) ≤ B
  -- m - 2^23: of the n least values 2^-149 that v is there are 2^23 at least, so that m has 24 digits
  pub ln_from : (s : Bool) (m : ℕ) (e : ℤ) → FromLeast (fin s m e) → 2 ^ 23 ≤ m * up e * 2 ^ 149 / down e
  pub ln_digits : (n : ℕ) → 2 ^ 23 ≤ n → 24 ≤ size n
  pub ln_lead : (n : ℕ) → 2 ^ 23 ≤ n → 2 ^ 23 ≤ n / 2 ^ (size n - 24)
  pub ln_below : (n : ℕ) → n / 2 ^ (size n - 24) < 2 ^ 24
