-- The logarithm of what lies in 1..64 is no larger than 127 either way: what it is added to can't be made infinite by
-- it. Assumes nothing.
use Prim.Native.Nat.{ℕ, zero, suc, ◌+◌, ◌-◌, ◌*◌, ◌/◌, ◌^◌, ◌≤◌, ◌<◌}
use mathlib.Core.Path.{subst}
use mathlib.Core.Bool.{Bool, true, false, cond}
use native.Mathlib.Nat.{le_trans, lt_of_le_of_lt, div-lt_iff_lt-mul, mul-le-mul_right, zero-lt-suc}
use native.Mathlib.Omega.{arith}
use lib.Dec.{T, leb, lit≤}
use lib.Ieee.{Float, nan, inf, fin, binary32, up, down, size, neg, round}
use lib.Ieee.Digits.{size-le}
use lib.Ieee.Fits.{down_pos}
use lib.Ieee.Positive.{num, den}
use lib.Ieee.Scale.{finite}
use Rattle.elementary.specs.FixedPoint.{M, L, over, turns}
use Rattle.elementary.specs.Ln.{odd_turn, odd_sum, odd_of, ln_parts, ln_at}
use Rattle.elementary.proofs.Quotients.{neg_round}
use Rattle.demap.proofs.Bounds.{Lies, round_lies}

-- finite, and no larger than n either way
pub record Small (n : ℕ) (x : Float) : Type 0 where
  pub held : T (finite x)
  pub to : num x ≤ n * den x

neg_small : (n : ℕ) (x : Float) → Small n x → Small n (neg x)
unfolding neg
neg_small n nan p = p
neg_small n (inf s) p = absurd p.held
neg_small n (fin s m e) p = record { held = tt; to = p.to }

round_small : (n : ℕ) → n ≤ 2 ^ 24 → (s : Bool) (a c : ℕ) → 0 < c → a ≤ n * c → Small n (round binary32 s a c)
round_small n few s a c C h = go s
  where
    plus : Small n (round binary32 false a c)
    plus = let l = round_lies 0 n a c C (omega arith) h few in record { held = l.held; to = l.to }

    go : (s : Bool) → Small n (round binary32 s a c)
    go false = plus
    go true = subst (Small n) (neg_round binary32 false a c) (neg_small n (round binary32 false a c) plus)

quotient : (a b c : ℕ) → 0 < c → a ≤ b * c → a / c ≤ b
quotient a b c C h = let q : a / c < suc b = (div-lt_iff_lt-mul C).1 (omega arith) in omega arith

-- ---- Odd, at most 22 M

turns_small : (n W S : ℕ) → W ≤ M → turns 0 n (odd_turn W) S ≤ S + n * M
unfolding turns
turns_small zero W S h = omega arith
turns_small (suc n) W S h =
    le_trans (turns_small n W (odd_turn W (0 + n) S) h)
    (omega (arith, quotient M M (2 * (0 + n) + 1) (omega arith) (omega arith), quotient (W * S) S M (zero-lt-suc 4294967295) (omega (arith, mul-le-mul_right S h))))

odd_small : (Z : ℕ) → Z ≤ M → odd_of Z ≤ 22 * M
unfolding odd_of odd_sum
odd_small Z h =
    let W = Z * Z / M in
    let S = turns 0 11 (odd_turn W) 0 in
    let C = zero-lt-suc 4294967295 in
    omega (arith, turns_small 11 W 0 (quotient (Z * Z) M M C (omega (arith, mul-le-mul_right Z h))), quotient (Z * S) S M C (omega (arith, mul-le-mul_right S h)))

over_small : (a b : ℕ) → a ≤ b + 127 * M → b ≤ 127 * M → Small 127 (over binary32 a b M)
unfolding over
over_small a b h k = go (leb b a)
  where
    go : (t : Bool) → Small 127 (cond t (round binary32 false (a - b) M) (round binary32 true (b - a) M))
    go true = round_small 127 (lit≤ tt) false (a - b) M (zero-lt-suc 4294967295) (omega arith)
    go false = round_small 127 (lit≤ tt) true (b - a) M (zero-lt-suc 4294967295) (omega arith)

parts_small : (m x : ℕ) → x ≤ 133 → Small 127 (ln_parts m x)
unfolding ln_parts
parts_small m x h =
    let Z = (m - 2 ^ 23) * M / (m + 2 ^ 23) in
    over_small (x * L + odd_of Z) (127 * L) (omega (arith, odd_small Z (quotient ((m - 2 ^ 23) * M) M (m + 2 ^ 23) (omega arith) (omega arith)))) (lit≤ tt)

-- x / c in units of 1 / P, for x / c ≤ 64
in_units : (x c P : ℕ) → 0 < c → x ≤ 64 * c → x * P / c ≤ 64 * P
in_units x c P C h = quotient (x * P) (64 * P) c C (omega (arith, mul-le-mul_right P h))

pub ln_small : (v : Float) → Lies 1 64 v → Small 127 (ln_at v)
unfolding ln_at
ln_small nan l = absurd l.held
ln_small (inf s) l = absurd l.held
ln_small (fin s m e) l =
    let n = m * up e * 2 ^ 149 / down e in
    let z : size n ≤ 156 = size-le n 156 (lt_of_le_of_lt (in_units (m * up e) (down e) (2 ^ 149) (down_pos e) l.to) (lit≤ tt)) in
    parts_small (n / 2 ^ (size n - 24)) (size n - 24 + 1) (omega arith)
