-- The laws of the six functions. Assumes nothing.
use Rattle.std.proofs.Common.{◌≡◌, ℕ, zero, suc, ◌+◌, ◌-◌, ◌*◌, ◌/◌, ◌%◌, ◌^◌, ◌<◌, ◌≤◌, Bool, true, false, cond, T, leb, pos, sym, refl, subst, zero-le, le_trans, le_of_eq, le_refl, lt_of_lt_of_le, mul-le-mul_right, zero-lt-suc, mul_comm, mul-pos, one-mul, lt_of_not-le, le-div_iff_mul-le, zero-mul, mul-one, not-le_of_lt, le-mul_of_pos_right, sub-le, arith, pow_pos, pow_mono}
use lib.Ieee.{Float, nan, inf, fin, Format, binary32, binary64, up, down, size, round, neg, le, lt, is_nan, of_bits}
use lib.Ieee.Digits.{size-lt}
use lib.Ieee.Fits.{down_pos}
use lib.Ieee.Order.{round_mono}
use lib.Ieee.Positive.{above, above_of_le, le→cross, le_trans_positive}
use Rattle.ieee.proofs.Floats.{round_no_nan}
use Rattle.ieee.proofs.Orders.{le_not_lt}
use Rattle.elementary.specs.Constants.{zero+, unit, zero64, minus87, least}
use Rattle.elementary.specs.Domain.{Number, FromLeast, InUnit, InTurns}
use Rattle.elementary.specs.FixedPoint.{M, L, B, whole_of, over, turns}
use Rattle.elementary.specs.Exp.{exp_turn, exp_sum, exp_fixed, exp_at}
use Rattle.elementary.specs.Ln.{odd_sum, odd_of, ln_parts, ln_at, ln1p_at}
use Rattle.elementary.specs.Circular.{H, sin_sum, cos_sum, sin_part, cos_taken, turned, wave_at, sin_at, cos_at}
use Rattle.elementary.specs.Laws.{ExpLaws, LnLaws, Ln1pLaws, SinLaws, CosLaws}
use Rattle.elementary.proofs.Decimals.{zero_decimal, unit_decimal}
use Rattle.elementary.proofs.Quotients.{over_le}

-- ---- a rounded fraction that is not negative
round_low : (a b : ℕ) → 0 < b → T (le zero+ (round binary32 false a b))
round_low a b h = subst (λ (x : Float). T (le x (round binary32 false a b))) (sym zero_decimal) (round_mono binary32 0 1 a b (zero-lt-suc 0) h (le_trans (le_of_eq (zero-mul b)) zero-le))

round_high : (a b : ℕ) → 0 < b → a ≤ b → T (le (round binary32 false a b) unit)
round_high a b h k = subst (λ (x : Float). T (le (round binary32 false a b) x)) (sym unit_decimal) (round_mono binary32 a b 1 1 h (zero-lt-suc 0) (le_trans (le_of_eq (mul-one a)) (le_trans k (le_of_eq (sym (one-mul b))))))

cond_on : (P : Float → Type 0) (b : Bool) (x y : Float) → P x → P y → P (cond b x y)
cond_on P true x y p q = p
cond_on P false x y p q = q

over_number : (f : Format) (a b c : ℕ) → Number (over f a b c)
unfolding over
over_number f a b c = cond_on (λ (x : Float). Number x) (leb b a) (round f false (a - b) c) (round f true (b - a) c) (round_no_nan f false (a - b) c) (round_no_nan f true (b - a) c)

-- ---- exp
turns_le : (n f P : ℕ) → P ≤ M → turns 1 n (exp_turn f) P ≤ M
unfolding turns
turns_le zero f P h = h
turns_le (suc n) f P h = turns_le n f (exp_turn f (1 + n) P) (sub-le M (f * P / M / (1 + n)))

-- what holds of 0 and of each rounded fraction of at most 1 holds of exp
exp_case : (P : Float → Type 0) → P zero+ → ((a b : ℕ) → 0 < b → a ≤ b → P (round binary32 false a b)) → (x : Float) → Number x → P (exp_at x)
unfolding exp_at exp_fixed exp_sum is_nan
exp_case P z r nan n = absurd n
exp_case P z r (inf s) n = z
exp_case P z r (fin s m e) n = cond_on P (lt (fin s m e) minus87) zero+ (exp_fixed (whole_of M (fin s m e))) z (at (whole_of M (fin s m e)))
  where
    at : (Q : ℕ) → P (exp_fixed Q)
    at Q =
        let d : 0 < 2 ^ (Q / L) = pow_pos (Q / L) in
        r (exp_sum (Q - Q / L * L)) (M * 2 ^ (Q / L)) (mul-pos (zero-lt-suc 4294967295) d) (le_trans (turns_le 12 (Q - Q / L * L) M (le_refl M)) (le-mul_of_pos_right M d))

exp_low : (x : Float) → Number x → T (le zero+ (exp_at x))
unfolding le of_bits
exp_low = exp_case (λ (y : Float). T (le zero+ y)) tt (λ a b h k. round_low a b h)

exp_high : (x : Float) → Number x → T (le (exp_at x) unit)
unfolding le of_bits
exp_high = exp_case (λ (y : Float). T (le y unit)) tt (λ a b h k. round_high a b h k)

exp_number : (x : Float) → Number x → Number (exp_at x)
unfolding is_nan of_bits
exp_number = exp_case (λ (y : Float). Number y) tt (λ a b h k. round_no_nan binary32 false a b)

exp_within : (x : Float) → InUnit (exp_at x)
unfolding exp_at lt is_nan of_bits
exp_within nan = (tt, tt)
exp_within (inf s) = (le_not_lt zero+ (exp_at (inf s)) (exp_low (inf s) tt), le_not_lt (exp_at (inf s)) unit (exp_high (inf s) tt))
exp_within (fin s m e) = (le_not_lt zero+ (exp_at (fin s m e)) (exp_low (fin s m e) tt), le_not_lt (exp_at (fin s m e)) unit (exp_high (fin s m e) tt))

exp_zero : (s : Bool) → exp_at (fin s 0 (pos 0)) ≡ unit
unfolding exp_at lt neg of_bits whole_of exp_fixed exp_sum turns round
exp_zero true = refl
exp_zero false = refl

exp_88 : exp_at (fin true 11 (pos 3)) ≡ zero+
unfolding exp_at lt neg of_bits
exp_88 = refl

pub exp_laws : ExpLaws
unfolding exp_at lt of_bits
exp_laws = record {
  low = exp_low;
  high = exp_high;
  at_zero = exp_zero;
  at_88 = exp_88;
  at_infinity = refl;
  at_nan = refl;
  number = exp_number;
  asked = λ x h. le_not_lt x zero+ h;
  asked_infinity = tt;
  asked_nan = tt;
  within = exp_within;
}

-- ---- ln
parts_low : (m x : ℕ) → 127 ≤ x → T (le zero+ (ln_parts m x))
unfolding ln_parts
parts_low m x h =
    let A = odd_of ((m - 2 ^ 23) * M / (m + 2 ^ 23)) in
    subst (λ (v : Float). T (le zero+ v)) (sym (over_le binary32 (x * L + A) (127 * L) M (more x A h))) (round_low (x * L + A - 127 * L) M (zero-lt-suc 4294967295))
  where
    more : (x a : ℕ) → 127 ≤ x → 127 * L ≤ x * L + a
    more x a h = omega arith

ln_low : (v : Float) → T (le unit v) → T (le zero+ (ln_at v))
unfolding ln_at of_bits le lt
ln_low v h = go v h (above_of_le unit v tt h)
  where
    digits : (n : ℕ) → 2 ^ 149 ≤ n → 127 ≤ size n - 24 + 1
    digits n h = room (size n) (lt_of_not-le (λ (g : size n ≤ 149). not-le_of_lt (lt_of_lt_of_le (size-lt n) (pow_mono g)) h))
      where
        room : (z : ℕ) → 149 < z → 127 ≤ z - 24 + 1
        room z h = omega arith

    go : (v : Float) → T (le unit v) → T (above v) → T (le zero+ (ln_at v))
    go nan h a = absurd a
    go (inf true) h a = absurd a
    go (inf false) h a = tt
    go (fin true m e) h a = absurd a
    go (fin false m e) h a =
        let n = m * up e * 2 ^ 149 / down e in
        let c : 1 * 1 * down e ≤ m * up e * 1 = le→cross unit (fin false m e) tt a h in
        let from : down e ≤ m * up e = le_trans (le_of_eq (sym (one-mul (down e)))) (le_trans c (le_of_eq (mul-one (m * up e)))) in
        parts_low (n / 2 ^ (size n - 24)) (size n - 24 + 1) (digits n ((le-div_iff_mul-le (down_pos e)).1 (le_trans (le_of_eq (mul_comm (2 ^ 149) (down e))) (mul-le-mul_right (2 ^ 149) from))))

ln_one : ln_at unit ≡ zero+
unfolding ln_at ln_parts odd_of odd_sum turns over size round of_bits
ln_one = refl

ln_number : (v : Float) → Number v → Number (ln_at v)
unfolding ln_at ln_parts is_nan
ln_number nan n = n
ln_number (inf s) n = tt
ln_number (fin s m e) n =
    let k = size (m * up e * 2 ^ 149 / down e) - 24 in
    let d = m * up e * 2 ^ 149 / down e / 2 ^ k in
    over_number binary32 ((k + 1) * L + odd_of ((d - 2 ^ 23) * M / (d + 2 ^ 23))) (127 * L) M

ln_asked : (v : Float) → T (le unit v) → FromLeast v
unfolding le lt of_bits
ln_asked v h = go v h (above_of_le unit v tt h)
  where
    go : (v : Float) → T (le unit v) → T (above v) → FromLeast v
    go nan h a = tt
    go (inf true) h a = absurd a
    go (inf false) h a = tt
    go (fin true m e) h a = absurd a
    go (fin false m e) h a = le_not_lt least (fin false m e) (le_trans_positive least unit (fin false m e) tt tt a tt h)

pub ln_laws : LnLaws
unfolding ln_at lt of_bits
ln_laws = record {
  low = ln_low;
  at_one = ln_one;
  at_infinity = refl;
  at_nan = refl;
  number = ln_number;
  asked = λ v h. le_not_lt least v h;
  asked_from_one = ln_asked;
  asked_nan = tt;
}

-- ---- ln_1p
ln1p_low : (t : Float) → Number t → InUnit t → T (le zero+ (ln1p_at t))
unfolding ln1p_at is_nan lt of_bits
ln1p_low nan n h = absurd n
ln1p_low (inf true) n h = absurd h.0
ln1p_low (inf false) n h = absurd h.1
ln1p_low (fin s m e) n h =
    let q = whole_of M (fin s m e) in
    round_low (odd_of (2 * (q * 2 ^ 31 / (2 ^ 33 + q)))) M (zero-lt-suc 4294967295)

ln1p_zero : (s : Bool) → ln1p_at (fin s 0 (pos 0)) ≡ zero+
unfolding ln1p_at whole_of odd_of odd_sum turns round of_bits
ln1p_zero s = refl

ln1p_number : (t : Float) → Number t → Number (ln1p_at t)
unfolding ln1p_at is_nan
ln1p_number nan n = n
ln1p_number (inf s) n = tt
ln1p_number (fin s m e) n =
    let q = whole_of M (fin s m e) in
    round_no_nan binary32 false (odd_of (2 * (q * 2 ^ 31 / (2 ^ 33 + q)))) M

pub ln1p_laws : Ln1pLaws
unfolding ln1p_at
ln1p_laws = record {
  low = ln1p_low;
  at_zero = ln1p_zero;
  at_nan = refl;
  number = ln1p_number;
  asked = λ t h k. (le_not_lt zero+ t h, le_not_lt t unit k);
}

-- ---- sin and cos
wave_number : (i Q : ℕ) → Number (wave_at i Q)
unfolding wave_at turned
wave_number i Q = go ((Q / H + i) % 4) (sin_part (Q - Q / H * H)) (cos_taken (Q - Q / H * H))
  where
    go : (r s t : ℕ) → Number (turned r s t)
    go zero s t = over_number binary64 s 0 B
    go (suc zero) s t = over_number binary64 B t B
    go (suc (suc zero)) s t = over_number binary64 0 s B
    go (suc (suc (suc r))) s t = over_number binary64 t B B

neg_number : (x : Float) → Number x → Number (neg x)
unfolding neg is_nan
neg_number nan n = n
neg_number (inf s) n = tt
neg_number (fin s m e) n = tt

sin_number : (p : Float) → Number p → InTurns p → Number (sin_at p)
unfolding sin_at is_nan lt neg of_bits
sin_number nan n h = absurd n
sin_number (inf true) n h = absurd h.1
sin_number (inf false) n h = absurd h.0
sin_number (fin s m e) n h =
    let v = wave_at 0 (whole_of B (fin s m e)) in
    let k = wave_number 0 (whole_of B (fin s m e)) in
    cond_on (λ (x : Float). Number x) (lt (fin s m e) zero64) (neg v) v (neg_number v k) k

sin_zero : (s : Bool) → sin_at (fin s 0 (pos 0)) ≡ fin false 0 (pos 0)
unfolding sin_at lt neg of_bits whole_of wave_at turned sin_part sin_sum turns over round
sin_zero true = refl
sin_zero false = refl

pub sin_laws : SinLaws
unfolding sin_at
sin_laws = record { at_zero = sin_zero; at_nan = refl; number = sin_number }

cos_number : (p : Float) → Number p → InTurns p → Number (cos_at p)
unfolding cos_at is_nan lt neg of_bits
cos_number nan n h = absurd n
cos_number (inf true) n h = absurd h.1
cos_number (inf false) n h = absurd h.0
cos_number (fin s m e) n h = wave_number 1 (whole_of B (fin s m e))

cos_zero : (s : Bool) → cos_at (fin s 0 (pos 0)) ≡ fin false 1 (pos 0)
unfolding cos_at whole_of wave_at turned cos_taken cos_sum turns over round
cos_zero s = refl

pub cos_laws : CosLaws
unfolding cos_at
cos_laws = record { at_zero = cos_zero; at_nan = refl; number = cos_number }
