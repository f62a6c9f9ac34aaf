-- Every turn of the sums stays within a word and takes at most the whole. Assumes nothing.
use Rattle.std.proofs.Common.{◌≡◌, ℕ, ◌+◌, ◌-◌, ◌*◌, ◌/◌, ◌^◌, ◌<◌, ◌≤◌, le_trans, le_of_eq, le_of_lt, mul-le-mul_right, mul_comm, mul-le-mul, mul-le-mul_left, div-le_self, arith}
use native.Mathlib.Nat.{div-le_of_le-mul}
use Rattle.elementary.specs.FixedPoint.{M, B}
use Rattle.elementary.proofs.Turns.{turn_at, turn_none}

-- ---- exp: a turn takes at most f
pub exp_term : (f P j : ℕ) → P ≤ M → f * P / M / j ≤ f
exp_term f P j h = le_trans (div-le_self (f * P / M) j) (div-le_of_le-mul M (le_trans (mul-le-mul_left f h) (le_of_eq (mul_comm f M))))

-- ---- Odd
pub odd_product : (W S : ℕ) → W ≤ 2 ^ 30 → S ≤ 2 ^ 33 → W * S ≤ 2 ^ 63
odd_product W S h k = mul-le-mul h k

pub odd_turn_lem : (j W S : ℕ) → W ≤ 2 ^ 30 → S ≤ 2 ^ 33 → M / (2 * j + 1) + W * S / M ≤ 2 ^ 33
odd_turn_lem j W S h k = sum (M / (2 * j + 1)) (W * S) (div-le_self M (2 * j + 1)) (odd_product W S h k)
  where
    sum : (x y : ℕ) → x ≤ M → y ≤ 2 ^ 63 → x + y / M ≤ 2 ^ 33
    sum x y a b = omega arith

pub odd_last : (Z S : ℕ) → Z < 2 ^ 31 → S ≤ 2 ^ 33 → Z * S ≤ 2147483647 * 2 ^ 33
odd_last Z S h k = mul-le-mul (pred Z h) k
  where
    pred : (z : ℕ) → z < 2 ^ 31 → z ≤ 2147483647
    pred z h = omega arith

-- ---- sin and cos: a turn takes at most B, where its divisor is 3 at least
pub wave_product : (F s : ℕ) → F ≤ 3 * B → s ≤ B → F * s ≤ 3 * B * B
wave_product F s h k = mul-le-mul h k

pub wave_term : (F s d : ℕ) → F ≤ 3 * B → s ≤ B → 3 ≤ d → F * s / B / d ≤ B
wave_term F s d h k l = div-le_of_le-mul d (le_trans (part (F * s) (wave_product F s h k)) (mul-le-mul_right B l))
  where
    part : (x : ℕ) → x ≤ 3 * B * B → x / B ≤ 3 * B
    part x h = omega arith

pub sin_divisor : (j : ℕ) → 1 ≤ j → 3 ≤ 2 * j * (2 * j + 1)
sin_divisor j h = mul-le-mul {n₁ = 1} {m₁ = 3} (omega arith) (omega arith)

pub cos_divisor : (j : ℕ) → 2 ≤ j → 3 ≤ (2 * j - 1) * (2 * j)
cos_divisor j h = mul-le-mul {n₁ = 3} {m₁ = 1} (omega arith) (omega arith)

-- the code's divisor, whose first factor is 2 j - K
pub divisor_sin : (K j : ℕ) → K ≡ 0 → (2 * j - K) * (2 * j - K + 1) ≡ 2 * j * (2 * j + 1)
divisor_sin K j e =
    let a : 2 * j - K ≡ 2 * j = omega arith in
    rw a

pub divisor_cos : (K j : ℕ) → K ≡ 1 → 1 ≤ j → (2 * j - K) * (2 * j - K + 1) ≡ (2 * j - 1) * (2 * j)
divisor_cos K j e h =
    let a : 2 * j - K + 1 ≡ 2 * j = omega arith in
    rw (a, e)

-- ---- what the check uses of the two loops that count down
pub ruleset exp_turns = (turn_at, turn_none, exp_term)

pub ruleset odd_turns = (turn_at, turn_none, odd_product, odd_turn_lem)
