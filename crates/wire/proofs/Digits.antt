-- A number by its digits, of bytes and of fields. Assumes nothing.
use Prim.Native.Nat.{ℕ, ◌+◌, ◌*◌, ◌/◌, ◌%◌, ◌^◌, ◌<◌}
use mathlib.Core.Path.{◌≡◌, refl}
use mathlib.Core.Bool.{Bool, true, false, cond}
use native.Mathlib.Omega.{arith}
use lib.Dec.{eqb}

pub four_bytes : (x : ℕ) → x / 2 ^ 24 * 2 ^ 24 + x / 2 ^ 16 % 2 ^ 8 * 2 ^ 16 + x / 2 ^ 8 % 2 ^ 8 * 2 ^ 8 + x % 2 ^ 8 ≡ x
four_bytes x = omega arith

join : (a b c d r s q x : ℕ) → a * 2 ^ 24 + b * 2 ^ 16 + c * 2 ^ 8 + d ≡ q → q * 2 ^ 16 + r * 2 ^ 8 + s ≡ x
    → a * 2 ^ 40 + b * 2 ^ 32 + c * 2 ^ 24 + d * 2 ^ 16 + r * 2 ^ 8 + s ≡ x
join a b c d r s q x e e' = omega arith

-- the upper four are those of x / 2 ^ 16
pub six_bytes : (x : ℕ) → x / 2 ^ 40 * 2 ^ 40 + x / 2 ^ 32 % 2 ^ 8 * 2 ^ 32 + x / 2 ^ 24 % 2 ^ 8 * 2 ^ 24 + x / 2 ^ 16 % 2 ^ 8 * 2 ^ 16 + x / 2 ^ 8 % 2 ^ 8 * 2 ^ 8 + x % 2 ^ 8 ≡ x
six_bytes x =
    let a : x / 2 ^ 40 ≡ x / 2 ^ 16 / 2 ^ 24 = omega arith in
    let b : x / 2 ^ 32 ≡ x / 2 ^ 16 / 2 ^ 16 = omega arith in
    let c : x / 2 ^ 24 ≡ x / 2 ^ 16 / 2 ^ 8 = omega arith in
    join _ _ _ _ _ _ (x / 2 ^ 16) x (rw (a, b, c) (four_bytes (x / 2 ^ 16))) (low x)
  where
    low : (x : ℕ) → x / 2 ^ 16 * 2 ^ 16 + x / 2 ^ 8 % 2 ^ 8 * 2 ^ 8 + x % 2 ^ 8 ≡ x
    low x = omega arith

pub bit_back : (b : Bool) → eqb (cond b 1 0) 1 ≡ b
bit_back true = refl
bit_back false = refl

pub bit_lt : (b : Bool) → cond b 1 0 < 2
bit_lt true = omega arith
bit_lt false = omega arith

module _ (layout constellation nsym sparse spread gain k priors : ℕ) where
  abbrev joined : ℕ
  joined = layout * 2 ^ 44 + constellation * 2 ^ 42 + nsym * 2 ^ 32 + sparse * 2 ^ 31 + spread * 2 ^ 30 + gain * 2 ^ 28 + k * 2 ^ 22 + priors * 2 ^ 2

  pub record Digits : Type 0 where
    pub first : joined / 2 ^ 44 ≡ layout
    pub second : joined / 2 ^ 42 % 2 ^ 2 ≡ constellation
    pub third : joined / 2 ^ 32 % 2 ^ 10 ≡ nsym
    pub fourth : joined / 2 ^ 31 % 2 ≡ sparse
    pub fifth : joined / 2 ^ 30 % 2 ≡ spread
    pub sixth : joined / 2 ^ 28 % 2 ^ 2 ≡ gain
    pub seventh : joined / 2 ^ 22 % 2 ^ 6 ≡ k
    pub eighth : joined / 2 ^ 2 % 2 ^ 20 ≡ priors

  pub digits : constellation < 2 ^ 2 → nsym < 2 ^ 10 → sparse < 2 → spread < 2 → gain < 2 ^ 2 → k < 2 ^ 6 → priors < 2 ^ 20 → Digits
  digits a b c d e f g = record {
    first = omega arith;
    second = omega arith;
    third = omega arith;
    fourth = omega arith;
    fifth = omega arith;
    sixth = omega arith;
    seventh = omega arith;
    eighth = omega arith;
  }
