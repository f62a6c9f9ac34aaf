-- P / (M * 2 ^ n), as the code makes it: a product by a power of two, which is exact, and a narrowing. Assumes nothing.
use Rattle.std.proofs.Common.{◌≡◌, ℕ, suc, ◌+◌, ◌-◌, ◌*◌, ◌/◌, ◌%◌, ◌^◌, ◌<◌, ◌≤◌, Bool, false, not, T, leb, pos, sym, ap, ◌∙◌, subst, le_trans, lt_of_lt_of_le, lt_of_le_of_lt, zero-lt-suc, mul_assoc, mul-pos, not-le_of_lt, arith, lit<, lit≤, leb→le, pow_pos, pow_mono, pow-add, shl_lt}
use lib.Dec.{not_T}
use lib.Ieee.{Float, nan, inf, fin, binary32, binary64, round, mul, of_int, of_bits, nan_bits, is_nan}
use lib.Ieee.Bits.{is_false, nan_bits_is}
use lib.Ieee.Exact.{HasValue, round_exact}
use lib.Ieee.Scale.{round_same}
use lib.Ieee.Positive.{positive_of_value, mul_at}
use Rattle.ieee.specs.Narrow.{narrowed}
use Rattle.ieee.proofs.Codec.{decode_suc}
use Rattle.ieee.proofs.Narrowing.{narrowed_at}
use Rattle.elementary.specs.FixedPoint.{M}
use Rattle.elementary.proofs.Quotients.{whole_val}

no_nan_of : (x : Float) (s : Bool) (a c : ℕ) → HasValue x s a c → T (not (is_nan x))
unfolding is_nan
no_nan_of nan s a c h = absurd h
no_nan_of (inf t) s a c h = tt
no_nan_of (fin t m e) s a c h = tt

power : (i : ℕ) → 1 ≤ i → i < 1024 → HasValue (of_bits binary64 (i * 4503599627370496)) false (4503599627370496 * 2 ^ (i - 1)) (2 ^ 1074)
power i lo hi =
    let b = i * 4503599627370496 in
    subst (λ (s : Bool). HasValue (of_bits binary64 b) s (4503599627370496 * 2 ^ (i - 1)) (2 ^ 1074)) (is_false (leb 9223372036854775808 b) (not_T (leb 9223372036854775808 b) (λ t. not-le_of_lt (small i hi) (leb→le 9223372036854775808 b t))))
    (subst (λ (t : ℕ). HasValue (of_bits binary64 b) (leb 9223372036854775808 b) ((4503599627370496 + t) * 2 ^ (i - 1)) (2 ^ 1074)) (none i) (decode_suc binary64 b (i - 1) (field i lo hi) (less i lo hi)))
  where
    small : (i : ℕ) → i < 1024 → i * 4503599627370496 < 9223372036854775808
    small i h = omega arith

    none : (i : ℕ) → i * 4503599627370496 % 4503599627370496 ≡ 0
    none i = omega arith

    field : (i : ℕ) → 1 ≤ i → i < 1024 → i * 4503599627370496 % 9223372036854775808 / 4503599627370496 ≡ suc (i - 1)
    field i a b = omega arith

    less : (i : ℕ) → 1 ≤ i → i < 1024 → suc (i - 1) < 2047
    less i a b = omega arith

pub power_no_nan : (n : ℕ) → n ≤ 125 → T (not (nan_bits binary64 ((991 - n) * 4503599627370496)))
power_no_nan n h =
    subst (λ (t : Bool). T (not t)) (sym (nan_bits_is binary64 ((991 - n) * 4503599627370496)))
    (no_nan_of (of_bits binary64 ((991 - n) * 4503599627370496)) false (4503599627370496 * 2 ^ (991 - n - 1)) (2 ^ 1074) (power (991 - n) (a n h) (b n)))
  where
    a : (n : ℕ) → n ≤ 125 → 1 ≤ 991 - n
    a n h = omega arith

    b : (n : ℕ) → 991 - n < 1024
    b n = omega arith

join : (P A x y : ℕ) → P * (A * x) * y ≡ P * (A * (x * y))
join P A x y = simp (mul_assoc)

pub scaled : (P n : ℕ) → 0 < P → P ≤ M → n ≤ 125 → narrowed (mul binary64 (of_int binary64 (pos P)) (of_bits binary64 ((991 - n) * 4503599627370496))) ≡ round binary32 false P (M * 2 ^ n)
scaled P n p u h =
    let i = 991 - n in
    let X = of_int binary64 (pos P) in
    let Y = of_bits binary64 (i * 4503599627370496) in
    let z = 2 ^ (i - 1) in
    let v_x : HasValue X false P 1 = whole_val binary64 P (le_trans u (lit≤ tt)) in
    let v_y : HasValue Y false (4503599627370496 * z) (2 ^ 1074) = power i (a n h) (b n) in
    let num' = P * (4503599627370496 * z) in
    let is : mul binary64 X Y ≡ round binary64 false num' (2 ^ 1074) =
    mul_at binary64 X Y P 1 (4503599627370496 * z) (2 ^ 1074) (positive_of_value X P 1 v_x p) (positive_of_value Y (4503599627370496 * z) (2 ^ 1074) v_y (mul-pos (lit< tt) (pow_pos (i - 1)))) (zero-lt-suc 0) (pow_pos 1074) v_x v_y in
    let P53 : P < 2 ^ 53 = lt_of_le_of_lt u (lit< tt) in
    let v : HasValue (round binary64 false num' (2 ^ 1074)) false num' (2 ^ 1074) =
    round_exact binary64 false num' (2 ^ 1074) P (52 + (i - 1)) (pow_pos 1074) P53
    (lt_of_lt_of_le (shl_lt 53 (52 + (i - 1)) P53) (pow_mono (room n)))
    (ap (λ (y : ℕ). P * y * 2 ^ 1074) (sym (pow-add 2 52 (i - 1)))) in
    ap narrowed is
    ∙ narrowed_at (round binary64 false num' (2 ^ 1074)) false num' (2 ^ 1074) (pow_pos 1074) v
    ∙ round_same binary32 false num' (2 ^ 1074) P (M * 2 ^ n) (pow_pos 1074) (mul-pos (zero-lt-suc 4294967295) (pow_pos n))
    (ap (λ (y : ℕ). num' * y) (sym (pow-add 2 32 n)) ∙ join P 4503599627370496 z (2 ^ (32 + n)) ∙ ap (λ (y : ℕ). P * (4503599627370496 * y)) (sym (pow-add 2 (i - 1) (32 + n)) ∙ ap (λ (y : ℕ). 2 ^ y) (whole n h)))
  where
    a : (n : ℕ) → n ≤ 125 → 1 ≤ 991 - n
    a n h = omega arith

    b : (n : ℕ) → 991 - n < 1024
    b n = omega arith

    room : (n : ℕ) → 53 + (52 + (991 - n - 1)) ≤ 2098
    room n = omega arith

    whole : (n : ℕ) → n ≤ 125 → 991 - n - 1 + (32 + n) ≡ 1022
    whole n h = omega arith
