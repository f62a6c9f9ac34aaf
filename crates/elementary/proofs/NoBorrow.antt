-- No difference in a recipe takes more than there is. Assumes nothing.
use Rattle.std.proofs.Common.{ℕ, ◌+◌, ◌-◌, ◌*◌, ◌/◌, ◌^◌, ◌<◌, ◌≤◌, Bool, true, false, ℤ, sym, le_trans, le_of_eq, lt_of_lt_of_le, le_of_lt, mul-le-mul_right, mul_assoc, div-lt_iff_lt-mul, mul-le-mul, lt_of_not-le, le-div_iff_mul-le, not-le_of_lt, arith, nltb→le, pow_pos, pow_mono, pow-add}
use lib.Ieee.{fin, up, down, size, lt, of_bits}
use lib.Ieee.Fits.{down_pos}
use Rattle.elementary.specs.Domain.{FromLeast}
use lib.Ieee.Digits.{size-lt, size_reaches}
use Rattle.elementary.specs.FixedPoint.{B}
use Rattle.elementary.specs.Circular.{H}
use Rattle.elementary.specs.Laws.{NoBorrow}
use Rattle.elementary.proofs.TurnBounds.{exp_term, wave_term, sin_divisor, cos_divisor}

from : (s : Bool) (m : ℕ) (e : ℤ) → FromLeast (fin s m e) → 2 ^ 23 ≤ m * up e * 2 ^ 149 / down e
unfolding lt of_bits
from true m e h = absurd (none (m * up e * 2 ^ 118) (down e) (down_pos e) (nltb→le 0 (m * up e * 2 ^ 118 + 332307 * 1 * down e) h))
  where
    none : (x d : ℕ) → 0 < d → x + 332307 * 1 * d ≤ 0 → ⊥
    none x d h k = omega arith
from false m e h = (le-div_iff_mul-le (down_pos e)).1 (scale (m * up e) (down e) (nltb→le (m * up e * 2 ^ 118) (332307 * 1 * down e) h))
  where
    scale : (x d : ℕ) → 332307 * 1 * d ≤ x * 2 ^ 118 → 2 ^ 23 * d ≤ x * 2 ^ 149
    scale x d h = le_trans (more d) (le_trans (mul-le-mul_right (2 ^ 31) h) (le_of_eq (mul_assoc x (2 ^ 118) (2 ^ 31))))
      where
        more : (d : ℕ) → 2 ^ 23 * d ≤ 332307 * 1 * d * 2 ^ 31
        more d = omega arith

digits : (n : ℕ) → 2 ^ 23 ≤ n → 24 ≤ size n
digits n h = lt_of_not-le (λ (g : size n ≤ 23). not-le_of_lt (lt_of_lt_of_le (size-lt n) (pow_mono g)) h)

lead : (n : ℕ) → 2 ^ 23 ≤ n → 2 ^ 23 ≤ n / 2 ^ (size n - 24)
lead n h =
    let k = size n - 24 in
    let last : 23 + k < size n = room (size n) (digits n h) in
    (le-div_iff_mul-le (pow_pos k)).1 (le_trans (le_of_eq (sym (pow-add 2 23 k))) (size_reaches n (23 + k) last))
  where
    room : (z : ℕ) → 24 ≤ z → 23 + (z - 24) < z
    room z h = omega arith

below : (n : ℕ) → n / 2 ^ (size n - 24) < 2 ^ 24
below n =
    let k = size n - 24 in
    (div-lt_iff_lt-mul (pow_pos k)).1 (lt_of_lt_of_le (size-lt n) (le_trans (pow_mono (room (size n))) (le_of_eq (pow-add 2 24 k))))
  where
    room : (z : ℕ) → z ≤ 24 + (z - 24)
    room z = omega arith

cut : (x : ℕ) → x ≤ H * H → x / B ≤ 3 * B
cut x h = omega arith

pub no_borrow : NoBorrow
no_borrow = record {
  exp_rest = λ Q. omega arith;
  exp_left = λ Q. omega arith;
  circle_rest = λ Q. omega arith;
  circle_left = λ Q. omega arith;
  exp_turn_lem = λ j f P h k. le_trans (exp_term f P j k) (omega arith);
  square = λ f h. cut (f * f) (mul-le-mul (le_of_lt h) (le_of_lt h));
  sin_turn_lem = λ j F s i h k. wave_term F s (2 * j * (2 * j + 1)) h k (sin_divisor j i);
  cos_turn_lem = λ j F c i h k. wave_term F c ((2 * j - 1) * (2 * j)) h k (cos_divisor j i);
  ln_from = from;
  ln_digits = digits;
  ln_lead = lead;
  ln_below = below;
}
