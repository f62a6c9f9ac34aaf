-- |p| B rounded down, as the code makes it: a product by 2^30, which is exact, cut to a whole number. Assumes nothing.
use Rattle.std.proofs.Common.{◌≡◌, ℕ, ◌+◌, ◌*◌, ◌/◌, ◌^◌, ◌<◌, ◌≤◌, Bool, true, false, not, T, ltb, ℤ, pos, sym, ap, ◌∙◌, subst, true≢false, le_trans, le_of_eq, lt_of_le_of_lt, mul-le-mul_right, zero-lt-suc, mul_assoc, mul_comm, mul-lt-mul_of_pos_right, mul-pos, mul-one, mul_right_comm, le_of_mul-le-mul_right, arith, lit<, lit≤, lt→ltb, nltb→le, pow-add}
use native.Mathlib.Nat.{min-eq_left, div-le_of_le-mul}
use lib.Ieee.{Float, nan, inf, fin, binary64, up, down, mul, neg, lt, is_nan, of_bits, fits, to_unsigned}
use lib.Ieee.Fits.{down_pos, neg-fits}
use lib.Ieee.Exact.{HasValue, round_exact}
use lib.Ieee.Nearest.{div_same}
use Rattle.ieee.proofs.RoundNearest.{Steps, steps_of}
use Rattle.ieee.specs.Order.{abs_of}
use Rattle.elementary.specs.Domain.{Number, InTurns}
use Rattle.elementary.specs.FixedPoint.{B, whole_of}

-- ---- a product by 2 ^ 30, cut to a whole number
lower : (y : Float) (a c : ℕ) → HasValue y false a c → T (lt (fin true 1 (pos 0)) y)
unfolding lt
lower nan a c h = absurd h
lower (inf t) a c h = absurd h
lower (fin false n d) a c h = lt→ltb 0 (1 * 1 * down d + n * up d * 1) (some (1 * 1 * down d) (n * up d * 1) (mul-pos (zero-lt-suc 0) (down_pos d)))
  where
    some : (x y : ℕ) → 0 < x → 0 < x + y
    some x y h = omega arith
lower (fin true n d) a c h = absurd (true≢false h.0)

under : (x c a d : ℕ) → 0 < c → x * c ≡ a * d → a ≤ 549755813888 * c → x ≤ 549755813888 * d
under x c a d C h k = le_of_mul-le-mul_right (le_trans (le_of_eq h) (le_trans (mul-le-mul_right d k) (le_of_eq (mul_right_comm 549755813888 c d)))) C

upper : (y : Float) (a c : ℕ) → 0 < c → HasValue y false a c → a ≤ 549755813888 * c → T (lt y (fin false 1 (pos 64)))
unfolding lt
upper nan a c C h b = absurd h
upper (inf t) a c C h b = absurd h
upper (fin true n d) a c C h b = absurd (true≢false h.0)
upper (fin false n d) a c C h b =
    lt→ltb (n * up d * 1) (1 * 2 ^ 64 * down d)
    (lt_of_le_of_lt (le_of_eq (mul-one (n * up d))) (lt_of_le_of_lt (under (n * up d) c a (down d) C h.1 b) (mul-lt-mul_of_pos_right (lit< {m = 549755813888} {n = 1 * 2 ^ 64} tt) (down_pos d))))

whole : (y : Float) (a c : ℕ) → 0 < c → HasValue y false a c → a ≤ 549755813888 * c → to_unsigned 64 y ≡ a / c
unfolding to_unsigned
whole nan a c C h k = absurd h
whole (inf t) a c C h k = absurd h
whole (fin true n d) a c C h k = absurd (true≢false h.0)
whole (fin false n d) a c C h k = min-eq_left (le_trans (div-le_of_le-mul (down d) (le_trans (under (n * up d) c a (down d) C h.1 k) (le_of_eq (mul_comm 549755813888 (down d))))) (lit≤ tt)) ∙ div_same (n * up d) (down d) a c (down_pos d) C h.1

abbrev mul30 : Float → Float
mul30 p = mul binary64 p (fin false 1 (pos 30))

pub record Scaled (p y : Float) : Type 0 where
  pub low : T (lt (fin true 1 (pos 0)) y)
  pub high : T (lt y (fin false 1 (pos 64)))
  pub is : to_unsigned 64 y ≡ whole_of B p
  pub most : whole_of B p ≤ 2 ^ 39

-- the product is exact
module _ (m : ℕ) (e : ℤ) (held : T (fits binary64 (fin false m e))) (small : m * up e ≤ 512 * down e) where
  product : HasValue (mul binary64 (fin false m e) (fin false 1 (pos 30))) false (m * up e * (1 * 2 ^ 30)) (down e * 1)
  unfolding mul
  product =
      let w : Steps binary64 (fin false m e) = steps_of binary64 (fin false m e) (held, tt) in
      let q = w.m in
      let j = w.j in
      let v : m * up e * 2 ^ 1074 ≡ q * 2 ^ j * down e = w.value.1 in
      let most' : q * 2 ^ j ≤ 512 * 2 ^ 1074 = le_of_mul-le-mul_right (le_trans (le_of_eq (sym v)) (le_trans (mul-le-mul_right (2 ^ 1074) small) (le_of_eq (mul_right_comm 512 (down e) (2 ^ 1074))))) (down_pos e) in
      let is : q * 2 ^ (j + 30) ≡ q * 2 ^ j * 2 ^ 30 = ap (λ (x : ℕ). q * x) (pow-add 2 j 30) ∙ sym (mul_assoc q (2 ^ j) (2 ^ 30)) in
      round_exact binary64 false (m * up e * (1 * 2 ^ 30)) (down e * 1) q (j + 30) (mul-pos (down_pos e) (zero-lt-suc 0)) w.small
      (lt_of_le_of_lt (le_of_eq is) (lt_of_le_of_lt (mul-le-mul_right (2 ^ 30) most') (lit< tt)))
      (mul_right_comm (m * up e) (1 * 2 ^ 30) (2 ^ 1074) ∙ ap (λ (x : ℕ). x * (1 * 2 ^ 30)) v ∙ mul_right_comm (q * 2 ^ j) (down e) (1 * 2 ^ 30) ∙ ap (λ (x : ℕ). q * 2 ^ j * (1 * 2 ^ 30) * x) (sym (mul-one (down e))) ∙ ap (λ (x : ℕ). x * (down e * 1)) (sym is))

  bound : m * up e * (1 * 2 ^ 30) ≤ 549755813888 * (down e * 1)
  bound = le_trans (mul-le-mul_right (1 * 2 ^ 30) small) (le_of_eq (turn (down e)))
    where
      turn : (d : ℕ) → 512 * d * (1 * 2 ^ 30) ≡ 549755813888 * (d * 1)
      turn d = omega arith

  -- of either sign
  as_scaled : (t : Bool) → Scaled (fin t m e) (mul30 (fin false m e))
  unfolding whole_of
  as_scaled t =
      let a = m * up e * (1 * 2 ^ 30) in
      let c = down e * 1 in
      let C : 0 < c = mul-pos (down_pos e) (zero-lt-suc 0) in
      let y = mul binary64 (fin false m e) (fin false 1 (pos 30)) in
      let d : a / c ≡ m * up e * B / down e = div_same a c (m * up e * B) (down e) C (down_pos e) (ap (λ (x : ℕ). m * up e * B * x) (sym (mul-one (down e)))) in
      record {
        low = lower y a c product;
        high = upper y a c C product bound;
        is = whole y a c C product bound ∙ d;
        most = le_trans (le_of_eq (sym d)) (div-le_of_le-mul c (le_trans bound (le_of_eq (mul_comm 549755813888 c))));
      }

-- ---- what is asked of p
abbrev pub Small : Float → Type 0
Small p = Number p × InTurns p

plus : (m : ℕ) (e : ℤ) → T (not (ltb (1 * 2 ^ 9 * down e) (m * up e * 1))) → m * up e ≤ 512 * down e
plus m e h = le_trans (le_of_eq (sym (mul-one (m * up e)))) (nltb→le (1 * 2 ^ 9 * down e) (m * up e * 1) h)

scaled : (p : Float) → T (fits binary64 p) → Small p → Scaled p (mul30 (abs_of p))
unfolding is_nan lt of_bits neg abs_of
scaled nan f h = absurd h.0
scaled (inf true) f h = absurd h.1.1
scaled (inf false) f h = absurd h.1.0
scaled (fin false m e) f h = as_scaled m e f (plus m e h.1.0) false
scaled (fin true m e) f h = as_scaled m e (neg-fits binary64 (fin true m e) f) (plus m e h.1.1) true

-- as the code has it, by the pattern of 2 ^ 30
pub size_scaled : (p a : Float) → fits binary64 p ≡ true → Small p → a ≡ abs_of p → Scaled p (mul binary64 a (of_bits binary64 4742290407621132288))
unfolding of_bits
size_scaled p a f h e = subst (λ (x : Float). Scaled p (mul30 x)) (sym e) (scaled p (subst T (sym f) tt) h)
