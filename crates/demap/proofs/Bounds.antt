-- Sums of floats that lie between whole numbers lie between the sums of these: a rounding passes no whole number that
-- the format holds. Assumes nothing.
use Prim.Native.Nat.{ℕ, ◌+◌, ◌-◌, ◌*◌, ◌^◌, ◌≤◌, ◌<◌}
use mathlib.Core.Path.{◌≡◌, sym, ap, ◌∙◌}
use mathlib.Core.Bool.{Bool, true, false, true≢false}
use native.Mathlib.Nat.{le_trans, not-le_of_lt, mul-pos, mul-le-mul_right, le_of_mul-le-mul_right, zero-lt-suc}
use native.Mathlib.Omega.{arith}
use lib.Dec.{T, nltb→le, lit≤}
use lib.Ieee.{Float, nan, inf, fin, binary32, up, down, lt, le, round, of_bits}
use lib.Ieee.Back.{round_whole}
use lib.Ieee.Order.{round_mono}
use lib.Ieee.Positive.{num, den, den_pos, value→cross}
use lib.Ieee.Scale.{finite}
use Rattle.ieee.specs.Num.{◌⊞◌}
use Rattle.ieee.specs.Nearest.{sign, OnlyOne}
use Rattle.ieee.specs.Operators.{OperatorsRound}
use Rattle.ieee.proofs.Orders.{le_not_lt}
use Rattle.ieee.proofs.RoundNearest.{ties_to_even, sign_of, value_finite}
use Rattle.ieee.proofs.RoundOnly.{only_one}
use Rattle.ieee.proofs.Operators.{operators_round}
use Rattle.elementary.specs.Constants.{unit}
use Rattle.elementary.proofs.Decimals.{unit_decimal}

pub record Lies (lo hi : ℕ) (x : Float) : Type 0 where
  pub held : T (finite x)
  pub plus : sign x ≡ false
  pub from : lo * den x ≤ num x
  pub to : num x ≤ hi * den x

cross : (x y : Float) → T (finite x) → sign x ≡ false → T (finite y) → sign y ≡ false → T (le x y) → num x * den y ≤ num y * den x
unfolding lt
cross nan y p s q t h = absurd p
cross (inf u) y p s q t h = absurd p
cross (fin true m e) y p s q t h = absurd (true≢false s)
cross (fin false m e) nan p s q t h = absurd q
cross (fin false m e) (inf u) p s q t h = absurd q
cross (fin false m e) (fin true n d) p s q t h = absurd (true≢false t)
cross (fin false m e) (fin false n d) p s q t h = nltb→le (n * up d * down e) (m * up e * down d) (le_not_lt (fin false m e) (fin false n d) h)

-- from the order of two floats to that of a float and a whole number n, which is w
module _ (n : ℕ) (small : n ≤ 2 ^ 24) (v : Float) (p : T (finite v)) (s : sign v ≡ false) where
  abbrev w : Float
  w = round binary32 false n 1

  w_is : num w * 1 ≡ n * den w
  w_is = value→cross w n 1 (round_whole binary32 false n small)

  w_held : T (finite w)
  w_held = value_finite w false n 1 (round_whole binary32 false n small)

  w_plus : sign w ≡ false
  w_plus = sign_of w false n 1 (round_whole binary32 false n small)

  above_whole : T (le w v) → n * den v ≤ num v
  above_whole h = le_of_mul-le-mul_right (omega (arith, cross w v w_held w_plus p s h, ap (λ (z : ℕ). z * den v) w_is)) (den_pos w)

  below_whole : T (le v w) → num v ≤ n * den v
  below_whole h = le_of_mul-le-mul_right (omega (arith, cross v w p s w_held w_plus h, ap (λ (z : ℕ). z * den v) w_is)) (den_pos w)

too_large : (n : ℕ) → (2 ^ 25 - 1) * 2 ^ 103 ≤ n → n ≤ 2 ^ 24 → ⊥
too_large n h k = not-le_of_lt (lit≤ tt) (le_trans h k)

pub round_lies : (lo hi a c : ℕ) → 0 < c → lo * c ≤ a → a ≤ hi * c → hi ≤ 2 ^ 24 → Lies lo hi (round binary32 false a c)
round_lies lo hi a c C h k small =
    let v = round binary32 false a c in
    let r = ties_to_even binary32 false a c C in
    let p : T (finite v) = r.else_finite (λ g. too_large hi (le_of_mul-le-mul_right (le_trans g k) C) small) in
    let lh : lo ≤ hi = le_of_mul-le-mul_right (le_trans h k) C in
    record {
      held = p;
      plus = r.signed;
      from = above_whole lo (omega arith) v p r.signed (round_mono binary32 lo 1 a c (zero-lt-suc 0) C (omega arith));
      to = below_whole hi small v p r.signed (round_mono binary32 a c hi 1 C (zero-lt-suc 0) (omega arith));
    }

pub add_lies : {a b c d : ℕ} {x y : Float} → Lies a b x → Lies c d y → b + d ≤ 2 ^ 24 → Lies (a + c) (b + d) (x ⊞ y)
unfolding OnlyOne OperatorsRound
add_lies {a} {b} {c} {d} {x} {y} p q small =
    let n = num x * den y + num y * den x in
    let D = den x * den y in
    let pos : 0 < D = mul-pos (den_pos x) (den_pos y) in
    let e : x ⊞ y ≡ round binary32 false n D = only_one binary32 (sign x) n D (x ⊞ y) pos ((operators_round binary32 x y p.held q.held).like (p.plus ∙ sym q.plus)) ∙ ap (λ (s : Bool). round binary32 s n D) p.plus in
    rw e
    (round_lies (a + c) (b + d) n D pos
    (omega (arith, mul-le-mul_right (den y) p.from, mul-le-mul_right (den x) q.from))
    (omega (arith, mul-le-mul_right (den y) p.to, mul-le-mul_right (den x) q.to)) small)

under : (x : Float) → sign x ≡ false → T (le x unit) → T (finite x)
unfolding le of_bits
under nan s h = absurd h
under (inf true) s h = absurd (true≢false s)
under (inf false) s h = absurd h
under (fin u m e) s h = tt

pub le_lies : (x : Float) → sign x ≡ false → T (le x unit) → Lies 0 1 x
le_lies x s h =
    let p = under x s h in
    record { held = p; plus = s; from = omega arith; to = below_whole 1 (lit≤ tt) x p s (rw unit_decimal at h) }
