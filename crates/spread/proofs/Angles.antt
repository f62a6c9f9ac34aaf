-- The constant of the source, and that `sin` and `cos` may be asked for every angle. Roughly is enough: a rounded value is as near to the exact one as 0 is, so at most twice its size.
use Rattle.std.specs.Prelude.{◌≡◌, ℕ, ◌*◌, ◌^◌, ◌<◌, ◌≤◌, Bool, true, false, not, T, ltb, pos}
use mathlib.Core.Path.{refl, sym, ◌∙◌}
use native.Mathlib.Nat.{le_trans, le_of_eq, mul-le-mul, mul-le-mul_right, le_of_mul-le-mul_right, mul-mul-mul_comm, mul_assoc, mul_comm, mul-one, mul-pos, lt_of_le_of_lt}
use native.Mathlib.Omega.{arith}
use lib.Dec.{ltb→lt, not_T, lit≤, lit<}
use lib.Ieee.{Float, nan, inf, fin, binary64, of_bits, of_int, fits, up, down, round, lt, neg}
use lib.Ieee.Exact.{round_exact}
use lib.Ieee.Scale.{finite}
use lib.Ieee.Positive.{num, den, den_pos}
use Rattle.ieee.specs.Num.{◌⊗◌, ◌⊘◌, f64_of}
use Rattle.ieee.specs.Nearest.{TiesToEven, AsNear, gap, apart}
use Rattle.ieee.specs.Operators.{OperatorsRound}
use Rattle.ieee.proofs.Operators.{operators_round}
use Rattle.ieee.proofs.RoundNearest.{cross, gap_own, value_finite}
use Rattle.elementary.specs.Domain.{InTurns}
use Rattle.spread.specs.Spreader.{tau, angle}

-- TAU: 6.28318530717958647692528676655900577
pub tau_is : tau ≡ round binary64 false 628318530717958647692528676655900577 (10 ^ 35)
unfolding of_bits round
tau_is = refl

-- |v| ≤ n
record Within (n : ℕ) (v : Float) : Type 0 where
  number : T (finite v)
  most : num v ≤ n * den v

-- ---- what is rounded is at most n, for an n that is far from overflow
module _ (s : Bool) (a b n : ℕ) (v : Float) (r : TiesToEven binary64 s a b v) (B : 0 < b) (N : n ≤ 1000) (h : a ≤ n * b) where
  not_infinite : T (finite v)
  not_infinite = r.else_finite (λ o. omega (arith, mul-le-mul_right b N, le_trans (mul-le-mul_right b (lit≤ {m = 1001} tt)) o))

  from_zero : (s : Bool) → gap s (a * 1) false (0 * b) ≡ a
  from_zero true = omega arith
  from_zero false = omega arith

  as_near : num v * b ≤ 2 * (a * den v)
  unfolding fits
  as_near =
      let d : AsNear s a b v (fin false 0 (pos 0)) = r.nearest not_infinite (fin false 0 (pos 0)) (tt, tt) in
      let d' : apart (a * den v) (num v * b) * 1 ≤ a * den v = rw (r.signed, gap_own, from_zero s) at d in
      omega arith

  rounded : Within (2 * n) v
  rounded = record {
    number = not_infinite;
    most = le_of_mul-le-mul_right (le_trans as_near (le_trans (omega (arith, mul-le-mul_right (den v) h)) (le_of_eq (turned n b (den v))))) B;
  }
    where
      turned : (n b d : ℕ) → 2 * (n * b * d) ≡ 2 * n * d * b
      turned n b d = simp (mul_assoc, mul_comm b d)

-- ---- the three numbers
turn : Within 7 (neg tau)
unfolding of_bits neg
turn = record { number = tt; most = lit≤ tt }

record Whole (n : ℕ) (v : Float) : Type 0 where
  number : T (finite v)
  is : num v ≡ n * den v

whole : (n : ℕ) → n ≤ 1000 → Whole n (f64_of n)
unfolding of_int
whole n h =
    let v = round_exact binary64 false n 1 n 1074 (lit< tt) (omega arith) (lt_of_le_of_lt (mul-le-mul_right (2 ^ 1074) h) (lit< tt)) (sym (mul-one (n * 2 ^ 1074))) in
    record { number = value_finite (f64_of n) false n 1 v; is = sym (mul-one (num (f64_of n))) ∙ cross (f64_of n) false n 1 v }

-- ---- the angle
beyond : (n d : ℕ) → n ≤ 28 * d → T (not (ltb (1 * 2 ^ 9 * d) (n * 1)))
beyond n d h = not_T (ltb (1 * 2 ^ 9 * d) (n * 1)) (λ t. omega (arith, ltb→lt (1 * 2 ^ 9 * d) (n * 1) t))

in_turns : (v : Float) → Within 28 v → InTurns v
unfolding lt neg of_bits
in_turns nan w = absurd w.number
in_turns (inf s) w = absurd w.number
in_turns (fin true m e) w = (tt, beyond (m * up e) (down e) w.most)
in_turns (fin false m e) w = (beyond (m * up e) (down e) w.most, tt)

module _ (m k : ℕ) (h : k < m) (h' : m ≤ 109) where
  product : Within (2 * (7 * k)) (neg tau ⊗ f64_of k)
  unfolding OperatorsRound
  product =
      let x = neg tau in
      let y = f64_of k in
      let w = whole k (omega arith) in
      rounded _ (num x * num y) (den x * den y) (7 * k) (x ⊗ y) (operators_round binary64 x y turn.number w.number).product (mul-pos (den_pos x) (den_pos y)) (omega arith)
      (le_trans (mul-le-mul turn.most (le_of_eq w.is)) (le_of_eq (mul-mul-mul_comm 7 (den x) k (den y))))

  quotient : Within 28 (neg tau ⊗ f64_of k ⊘ f64_of m)
  unfolding OperatorsRound
  quotient =
      let p = neg tau ⊗ f64_of k in
      let z = f64_of m in
      let w = whole m (omega arith) in
      let pos_z : 0 < num z = rw w.is (mul-pos (omega arith) (den_pos z)) in
      let few : 2 * (7 * k) ≤ 14 * m = omega arith in
      rounded _ (num p * den z) (num z * den p) 14 (p ⊘ z) ((operators_round binary64 p z product.number w.number).quotient pos_z) (mul-pos pos_z (den_pos p)) (lit≤ tt)
      (le_trans (mul-le-mul_right (den z) (le_trans product.most (mul-le-mul_right (den p) few))) (le_of_eq (rw w.is (around m (den p) (den z)))))
    where
      around : (m d e : ℕ) → 14 * m * d * e ≡ 14 * (m * e * d)
      around m d e = simp (mul_assoc, mul_comm d e)

  pub asked : InTurns (angle m k)
  unfolding angle
  asked = in_turns (neg tau ⊗ f64_of k ⊘ f64_of m) quotient
