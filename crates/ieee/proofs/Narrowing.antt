-- A value of binary64 rounded to binary32, by its digits and its exponent's field. Assumes nothing.
use mathlib.Core.Path.{◌≡◌, refl, sym, ap, ◌∙◌, subst}
use mathlib.Core.Logic.{◌⊎◌, inl, inr}
use Prim.Native.Nat.{ℕ, zero, suc, ◌+◌, ◌-◌, ◌*◌, ◌/◌, ◌%◌, ◌^◌, ◌≤◌, ◌<◌, compare}
use native.Mathlib.Nat.{add_assoc, le_trans, le_of_eq, lt_of_lt_of_le, lt_of_le_of_lt, eq-or-lt_of_le, zero-lt-suc, mul-one, mul_comm, mul_assoc, mul_left_comm, mul-le-mul_right, mul-le-mul_left, mul-le-mul, mul-lt-mul_of_pos_right, div-lt_iff_lt-mul, le-div_iff_mul-le}
use native.Mathlib.Omega.{arith}
use mathlib.Core.Bool.{Bool, true, false, not, cond}
use lib.Dec.{T, leb, leb→le, nleb→lt, lit<, lit≤}
use lib.Pow.{pow-add, pow_pos, pow_mono, shl_lt}
use lib.Ieee.{Float, nan, inf, fin, binary32, binary64, up, down, size, units, round, of_bits, nan_bits}
use lib.Ieee.Digits.{size-le}
use lib.Ieee.Fits.{down_pos, nearest-le}
use lib.Ieee.Exact.{HasValue}
use lib.Ieee.Nearest.{closest, closest_same, div_same, nearest-ge}
use lib.Ieee.Scale.{round_same}
use Rattle.ieee.specs.Narrow.{narrowed}
use Rattle.ieee.proofs.Codec.{size_is, encode, units_inf, decode_zero, decode_suc, decode_inf, no_digits, closest_none, round_at, Lead}

pub narrowed_at : (x : Float) (s : Bool) (a c : ℕ) → 0 < c → HasValue x s a c → narrowed x ≡ round binary32 s a c
unfolding narrowed
narrowed_at nan s a c C h = absurd h
narrowed_at (inf t) s a c C h = absurd h
narrowed_at (fin t m e) s a c C h = ap (λ (z : Bool). round binary32 z (m * up e) (down e)) h.0 ∙ round_same binary32 s (m * up e) (down e) a c (down_pos e) C h.1

narrowed_inf : (s : Bool) → narrowed (inf s) ≡ inf s
unfolding narrowed
narrowed_inf s = refl

-- ---- products of powers
spread : (q x A B C : ℕ) → q * (A * x) * B * C ≡ q * x * (A * B * C)
spread q x A B C = simp (mul_assoc, mul_comm)

spread' : (q x A B C : ℕ) → q * (A * x) * B * C ≡ q * ((A * B * C) * x)
spread' q x A B C = simp (mul_assoc, mul_comm, mul_left_comm)

gather : (q x y B : ℕ) → q * x * B * y ≡ q * (B * (x * y) * 1)
gather q x y B = step ∙ ap (λ (z : ℕ). q * z) (sym (mul-one (B * (x * y))))
  where
    step : q * x * B * y ≡ q * (B * (x * y))
    step = simp (mul_assoc, mul_comm, mul_left_comm)

middle : (A x B : ℕ) → A * x * B ≡ A * B * x
middle A x B = simp (mul_assoc, mul_comm)

-- ---- a normal result, or one too large
off : (j z : ℕ) → z ≡ suc (23 + j) → z - 24 ≡ j
off j z e = omega arith

pub normal : (s : Bool) (q j : ℕ) → 2 ^ 52 ≤ q → q < 2 ^ 53 → round binary32 s (q * 2 ^ (896 + j)) (2 ^ 1074) ≡ units binary32 s (closest q (2 ^ 29)) j
normal s q j a b =
    let x = 2 ^ j in
    let P : 0 < 2 ^ 1074 = pow_pos 1074 in
    let U : 0 < 2 ^ 29 = pow_pos 29 in
    let n = q * 2 ^ (896 + j) * 2 ^ 149 in
    let whole : n / 2 ^ 1074 ≡ q * x / 2 ^ 29 =
    div_same n (2 ^ 1074) (q * x) (2 ^ 29) P U (ap (λ (y : ℕ). q * y * 2 ^ 149 * 2 ^ 29) (pow-add 2 896 j) ∙ spread q x (2 ^ 896) (2 ^ 149) (2 ^ 29)) in
    let lo : 2 ^ (23 + j) ≤ q * x / 2 ^ 29 =
    (le-div_iff_mul-le U).1 (le_trans (le_of_eq (ap (λ (y : ℕ). y * 2 ^ 29) (pow-add 2 23 j) ∙ middle (2 ^ 23) x (2 ^ 29))) (mul-le-mul_right x a)) in
    let hi : q * x / 2 ^ 29 < 2 ^ suc (23 + j) =
    (div-lt_iff_lt-mul U).1 (lt_of_lt_of_le (mul-lt-mul_of_pos_right b (pow_pos j)) (le_of_eq (sym (ap (λ (y : ℕ). 2 ^ y * 2 ^ 29) (next j) ∙ ap (λ (y : ℕ). y * 2 ^ 29) (pow-add 2 24 j) ∙ middle (2 ^ 24) x (2 ^ 29))))) in
    round_at binary32 s (q * 2 ^ (896 + j)) (2 ^ 1074) j (closest q (2 ^ 29))
    (off j (size (n / 2 ^ 1074)) (ap size whole ∙ size_is (q * x / 2 ^ 29) (23 + j) lo hi))
    (closest_same n (2 ^ 1074 * x) q (2 ^ 29) (mul_lt_pos (2 ^ 1074) x P (pow_pos j)) U (ap (λ (y : ℕ). q * y * 2 ^ 149 * 2 ^ 29) (pow-add 2 896 j) ∙ spread' q x (2 ^ 896) (2 ^ 149) (2 ^ 29)))
  where
    next : (j : ℕ) → suc (23 + j) ≡ 24 + j
    next j = omega arith

    mul_lt_pos : (a b : ℕ) → 0 < a → 0 < b → 0 < a * b
    mul_lt_pos a b x y = lt_of_lt_of_le x (le_trans (le_of_eq (sym (mul-one a))) (mul-le-mul_left a y))

-- ---- a result among the smallest
few : (z : ℕ) → z ≤ 23 → z - 24 ≡ 0
few z h = omega arith

pub small : (s : Bool) (q k d : ℕ) → q < 2 ^ 53 → k < 896 → k + d ≡ 925 → round binary32 s (q * 2 ^ k) (2 ^ 1074) ≡ units binary32 s (closest q (2 ^ d)) 0
small s q k d b l e =
    let P : 0 < 2 ^ 1074 = pow_pos 1074 in
    let n = q * 2 ^ k * 2 ^ 149 in
    let up_to : q * 2 ^ k < 2 ^ 948 = lt_of_lt_of_le (shl_lt 53 k b) (pow_mono (reach k l)) in
    let hi : n / 2 ^ 1074 < 2 ^ 23 = (div-lt_iff_lt-mul P).1 (mul-lt-mul_of_pos_right up_to (pow_pos 149)) in
    round_at binary32 s (q * 2 ^ k) (2 ^ 1074) 0 (closest q (2 ^ d))
    (few (size (n / 2 ^ 1074)) (size-le (n / 2 ^ 1074) 23 hi))
    (closest_same n (2 ^ 1074 * 2 ^ 0) q (2 ^ d) (lit< tt) (pow_pos d)
    (gather q (2 ^ k) (2 ^ d) (2 ^ 149) ∙ ap (λ (y : ℕ). q * (2 ^ 149 * y * 1)) (sym (pow-add 2 k d) ∙ ap (λ (y : ℕ). 2 ^ y) e)))
  where
    reach : (k : ℕ) → k < 896 → 53 + k ≤ 948
    reach k h = omega arith

-- ---- a pattern of binary32
at_top : (s : Bool) → of_bits binary32 (cond s 2147483648 0 + 2139095040) ≡ inf s
unfolding of_bits
at_top true = refl
at_top false = refl

pub enc : (s : Bool) (q k : ℕ) → q ≤ 2 ^ 24 → Lead 24 q k → k ≤ 253 → of_bits binary32 (cond s 2147483648 0 + (k * 8388608 + q)) ≡ units binary32 s q k
enc s q k a l h = go (eq-or-lt_of_le a) (eq-or-lt_of_le h)
  where
    under : q ≤ 2 ^ 24 → k < 253 → q * 2 ^ k < 2 ^ 277
    under x y = lt_of_le_of_lt (mul-le-mul x (pow_mono (pred_le k y))) (lit< tt)
      where
        pred_le : (k : ℕ) → k < 253 → k ≤ 252
        pred_le k g = omega arith

    go : (q ≡ 2 ^ 24) ⊎ (q < 2 ^ 24) → (k ≡ 253) ⊎ (k < 253) → of_bits binary32 (cond s 2147483648 0 + (k * 8388608 + q)) ≡ units binary32 s q k
    go x (inr y) = encode binary32 s q k a l (under a y)
    go (inr x) (inl y) = encode binary32 s q k a l (subst (λ (z : ℕ). q * 2 ^ z < 2 ^ 277) (sym y) (mul-lt-mul_of_pos_right x (pow_pos 253)))
    go (inl x) (inl y) =
        ap (λ (z : ℕ). of_bits binary32 (cond s 2147483648 0 + (z * 8388608 + q))) y
        ∙ ap (λ (z : ℕ). of_bits binary32 (cond s 2147483648 0 + (253 * 8388608 + z))) x
        ∙ at_top s
        ∙ sym (ap (λ (z : ℕ). units binary32 s z k) x ∙ ap (λ (z : ℕ). units binary32 s (2 ^ 24) z) y ∙ units_inf binary32 s (2 ^ 24) 253 (lit≤ tt))

pub kept_most : (q d : ℕ) → q < 2 ^ 53 → 29 ≤ d → closest q (2 ^ d) ≤ 2 ^ 24
kept_most q d b h = le_trans (nearest-le (q / 2 ^ d) (compare (q % 2 ^ d * 2) (2 ^ d))) ((div-lt_iff_lt-mul (pow_pos d)).1 (lt_of_lt_of_le b (mul-le-mul_left (2 ^ 24) (pow_mono h))))

pub kept_least : (q : ℕ) → 2 ^ 52 ≤ q → 2 ^ 23 ≤ closest q (2 ^ 29)
kept_least q a = le_trans ((le-div_iff_mul-le (pow_pos 29)).1 a) (nearest-ge (q / 2 ^ 29) (compare (q % 2 ^ 29 * 2) (2 ^ 29)))

-- ---- the sign
sign_on : (b : ℕ) → b < 2 ^ 64 → 9223372036854775808 ≤ b → b / 9223372036854775808 * 2147483648 ≡ 2147483648
sign_on b h k = omega arith

sign_off : (b : ℕ) → b < 9223372036854775808 → b / 9223372036854775808 * 2147483648 ≡ 0
sign_off b k = omega arith

pub sign_is : (b : ℕ) → b < 2 ^ 64 → b / 9223372036854775808 * 2147483648 ≡ cond (leb 9223372036854775808 b) 2147483648 0
sign_is b h = go (leb 9223372036854775808 b) (leb→le 9223372036854775808 b) (nleb→lt 9223372036854775808 b)
  where
    go : (t : Bool) → (T t → 9223372036854775808 ≤ b) → (T (not t) → b < 9223372036854775808) → b / 9223372036854775808 * 2147483648 ≡ cond t 2147483648 0
    go true x y = sign_on b h (x tt)
    go false x y = sign_off b (y tt)

-- ---- the four ways
abbrev S : ℕ → ℕ
S b = b / 9223372036854775808 * 2147483648

abbrev sg : ℕ → Bool
sg b = leb 9223372036854775808 b

abbrev E : ℕ → ℕ
E b = b % 9223372036854775808 / 4503599627370496

abbrev Q : ℕ → ℕ
Q b = 4503599627370496 + b % 4503599627370496

Q-ge : (b : ℕ) → 2 ^ 52 ≤ Q b
Q-ge b = omega arith

Q-lt : (b : ℕ) → Q b < 2 ^ 53
Q-lt b = omega arith

E-lt : (b : ℕ) → E b ≤ 2047
E-lt b = omega arith

value : (b x : ℕ) → E b ≡ suc x → suc x < 2047 → narrowed (of_bits binary64 b) ≡ round binary32 (sg b) (Q b * 2 ^ x) (2 ^ 1074)
value b x e h = narrowed_at (of_bits binary64 b) (sg b) (Q b * 2 ^ x) (2 ^ 1074) (pow_pos 1074) (decode_suc binary64 b x e h)

value_normal : (b j : ℕ) → E b ≡ 897 + j → 897 + j < 2047 → narrowed (of_bits binary64 b) ≡ units binary32 (sg b) (closest (Q b) (2 ^ 29)) j
value_normal b j e h = value b (896 + j) (e ∙ next j) (lower j h) ∙ normal (sg b) (Q b) j (Q-ge b) (Q-lt b)
  where
    next : (j : ℕ) → 897 + j ≡ suc (896 + j)
    next j = omega arith

    lower : (j : ℕ) → 897 + j < 2047 → suc (896 + j) < 2047
    lower j h = omega arith

with_sign : (b n : ℕ) → b < 2 ^ 64 → of_bits binary32 (S b + n) ≡ of_bits binary32 (cond (sg b) 2147483648 0 + n)
with_sign b n h = ap (λ (z : ℕ). of_bits binary32 (z + n)) (sign_is b h)

pub way_top : (b : ℕ) → b < 2 ^ 64 → T (not (nan_bits binary64 b)) → 1150 < E b → of_bits binary32 (S b + 2139095040) ≡ narrowed (of_bits binary64 b)
way_top b h n g = with_sign b 2139095040 h ∙ at_top (sg b) ∙ sym (go (eq-or-lt_of_le (E-lt b)))
  where
    back : (e : ℕ) → 1150 < e → e ≡ 897 + (e - 897)
    back e h = omega arith

    less : (e : ℕ) → 1150 < e → e < 2047 → 897 + (e - 897) < 2047
    less e h k = omega arith

    far : (e : ℕ) → 1150 < e → 254 ≤ e - 897
    far e h = omega arith

    go : (E b ≡ 2047) ⊎ (E b < 2047) → narrowed (of_bits binary64 b) ≡ inf (sg b)
    go (inl e) = ap narrowed (decode_inf binary64 b e (no_digits binary64 b n e)) ∙ narrowed_inf (sg b)
    go (inr l) =
        value_normal b (E b - 897) (back (E b) g) (less (E b) g l)
        ∙ units_inf binary32 (sg b) (closest (Q b) (2 ^ 29)) (E b - 897) (mul-le-mul (kept_least (Q b) (Q-ge b)) (pow_mono (far (E b) g)))

pub way_normal : (b : ℕ) → b < 2 ^ 64 → E b ≤ 1150 → 896 < E b → of_bits binary32 (S b + (E b - 897) * 8388608 + closest (Q b) (2 ^ 29)) ≡ narrowed (of_bits binary64 b)
way_normal b h u g =
    ap (λ (r : ℕ). of_bits binary32 r) (add_assoc (S b) ((E b - 897) * 8388608) (closest (Q b) (2 ^ 29)))
    ∙ with_sign b ((E b - 897) * 8388608 + closest (Q b) (2 ^ 29)) h
    ∙ enc (sg b) (closest (Q b) (2 ^ 29)) (E b - 897) (kept_most (Q b) 29 (Q-lt b) (lit≤ tt)) (inr (kept_least (Q b) (Q-ge b))) (bound (E b) u)
    ∙ sym (value_normal b (E b - 897) (back (E b) g) (less (E b) u))
  where
    bound : (e : ℕ) → e ≤ 1150 → e - 897 ≤ 253
    bound e h = omega arith

    back : (e : ℕ) → 896 < e → e ≡ 897 + (e - 897)
    back e h = omega arith

    less : (e : ℕ) → e ≤ 1150 → 897 + (e - 897) < 2047
    less e h = omega arith

pub way_small : (b : ℕ) → b < 2 ^ 64 → E b ≤ 896 → 872 < E b → of_bits binary32 (S b + closest (Q b) (2 ^ (926 - E b))) ≡ narrowed (of_bits binary64 b)
way_small b h u g =
    let d = 926 - E b in
    let r = closest (Q b) (2 ^ d) in
    with_sign b r h
    ∙ ap (λ (z : ℕ). of_bits binary32 (cond (sg b) 2147483648 0 + z)) (nought r)
    ∙ enc (sg b) r 0 (kept_most (Q b) d (Q-lt b) (deep (E b) u)) (inl refl) (lit≤ tt)
    ∙ sym (value b (E b - 1) (back (E b) g) (less (E b) u) ∙ small (sg b) (Q b) (E b - 1) d (Q-lt b) (under (E b) u) (whole (E b) u g))
  where
    nought : (r : ℕ) → r ≡ 0 * 8388608 + r
    nought r = omega arith

    deep : (e : ℕ) → e ≤ 896 → 29 ≤ 926 - e
    deep e h = omega arith

    back : (e : ℕ) → 872 < e → e ≡ suc (e - 1)
    back e h = omega arith

    less : (e : ℕ) → e ≤ 896 → suc (e - 1) < 2047
    less e h = omega arith

    under : (e : ℕ) → e ≤ 896 → e - 1 < 896
    under e h = omega arith

    whole : (e : ℕ) → e ≤ 896 → 872 < e → e - 1 + (926 - e) ≡ 925
    whole e h k = omega arith

-- all digits lie below a half of the smallest value
gone : (s : Bool) (q k : ℕ) → q < 2 ^ 53 → k ≤ 871 → round binary32 s (q * 2 ^ k) (2 ^ 1074) ≡ units binary32 s 0 0
gone s q k b h =
    small s q k (925 - k) b (under k h) (whole k h)
    ∙ ap (λ (z : ℕ). units binary32 s z 0) (closest_none q (2 ^ (925 - k)) (lt_of_lt_of_le (mul-lt-mul_of_pos_right b (zero-lt-suc 1)) (pow_mono (deep k h))))
  where
    under : (k : ℕ) → k ≤ 871 → k < 896
    under k h = omega arith

    whole : (k : ℕ) → k ≤ 871 → k + (925 - k) ≡ 925
    whole k h = omega arith

    deep : (k : ℕ) → k ≤ 871 → 54 ≤ 925 - k
    deep k h = omega arith

pub way_none : (b : ℕ) → b < 2 ^ 64 → E b ≤ 872 → of_bits binary32 (S b) ≡ narrowed (of_bits binary64 b)
way_none b h u =
    ap (λ (z : ℕ). of_bits binary32 z) (plain (S b)) ∙ with_sign b (0 * 8388608 + 0) h ∙ enc (sg b) 0 0 (lit≤ tt) (inl refl) (lit≤ tt) ∙ sym (go (E b) refl u)
  where
    plain : (n : ℕ) → n ≡ n + 0
    plain n = omega arith

    t_lt : (b : ℕ) → b % 4503599627370496 < 2 ^ 53
    t_lt b = omega arith

    less : (x : ℕ) → suc x ≤ 872 → suc x < 2047
    less x h = omega arith

    low_k : (x : ℕ) → suc x ≤ 872 → x ≤ 871
    low_k x h = omega arith

    go : (e : ℕ) → E b ≡ e → e ≤ 872 → narrowed (of_bits binary64 b) ≡ units binary32 (sg b) 0 0
    go zero e l =
        narrowed_at (of_bits binary64 b) (sg b) (b % 4503599627370496 * 2 ^ 0) (2 ^ 1074) (pow_pos 1074) (decode_zero binary64 b e)
        ∙ gone (sg b) (b % 4503599627370496) 0 (t_lt b) (lit≤ tt)
    go (suc x) e l = value b x e (less x l) ∙ gone (sg b) (Q b) x (Q-lt b) (low_k x l)

-- what the check uses of the four ways
pub ruleset ways = (way_top, way_normal, way_small, way_none, kept_most)
