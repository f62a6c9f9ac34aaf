-- ln and ln_1p by cases, and ln's m and e off the bit pattern. Assumes nothing.
use Rattle.std.proofs.Common.{true≢false, ◌≡◌, ℕ, zero, suc, ◌+◌, ◌-◌, ◌*◌, ◌/◌, ◌%◌, ◌^◌, ◌<◌, ◌≤◌, Bool, true, false, not, T, leb, ◌⊎◌, negsuc, sym, refl, ap, ◌∙◌, subst, inl, inr, le_trans, le_of_eq, lt_of_lt_of_le, lt_of_le_of_lt, mul-le-mul_right, mul_assoc, div-lt_iff_lt-mul, lt_of_mul-lt-mul_right, eq-or-lt_of_le, mul-lt-mul_of_pos_right, mul-pos, mul_right_comm, mul-div_cancel, arith, lit<, lit≤, lt→ltb, leb→le, nltb→le, T_not, pow_pos, pow-add, shl_lt}
use lib.Dec.{nleb→lt}
use lib.Ieee.{Float, nan, inf, fin, binary32, up, down, size, round, lt, is_nan, fits, of_bits, to_bits, nan_bits}
use lib.Ieee.Bits.{is_false, nan_bits_is, nan_bits_above, to_bits-lt}
use lib.Ieee.Fits.{down_pos}
use lib.Ieee.Exact.{HasValue}
use lib.Ieee.Scale.{finite}
use Rattle.ieee.proofs.Codec.{size_is, decode_zero, decode_suc, decode_inf, no_digits}
use Rattle.ieee.proofs.Floats.{back}
use Rattle.std.specs.Float.{float_is_finite}
use Rattle.elementary.specs.Domain.{Number, FromLeast}
use Rattle.elementary.specs.FixedPoint.{M, L, whole_of, over}
use Rattle.elementary.specs.Ln.{odd_of, ln_parts, ln_at, ln1p_at}
use Rattle.elementary.proofs.Decimals.{least_is}

-- ---- from 1e-30 on a pattern is a normal value's or the infinity's
abbrev low : Float
low = fin false 332307 (negsuc 117)

below_zero : (x : Float) (n c : ℕ) → HasValue x true n c → T (lt x low)
unfolding lt
below_zero nan n c h = absurd h
below_zero (inf s) n c h = absurd h
below_zero (fin s m e) n c h = subst (λ (t : Bool). T (lt (fin t m e) low)) (sym h.0) (lt→ltb 0 (m * up e * 2 ^ 118 + 332307 * 1 * down e) (some (m * up e * 2 ^ 118) (332307 * 1 * down e) (mul-pos (lit< {m = 0} {n = 332307 * 1} tt) (down_pos e))))
  where
    some : (x y : ℕ) → 0 < y → 0 < x + y
    some x y h = omega arith

below_inf : T (lt (inf true) low)
unfolding lt
below_inf = tt

below_small : (x : Float) (n : ℕ) → HasValue x false n (2 ^ 149) → n < 2 ^ 23 → T (lt x low)
unfolding lt
below_small nan n h k = absurd h
below_small (inf s) n h k = absurd h
below_small (fin s m e) n h k =
    subst (λ (t : Bool). T (lt (fin t m e) low)) (sym h.0)
    (lt→ltb (m * up e * 2 ^ 118) (332307 * 1 * down e)
    (lt_of_mul-lt-mul_right (2 ^ 31)
    (lt_of_le_of_lt (le_of_eq (mul_assoc (m * up e) (2 ^ 118) (2 ^ 31) ∙ h.1))
    (lt_of_lt_of_le (mul-lt-mul_of_pos_right k (down_pos e)) (le_trans (mul-le-mul_right (down e) (lit≤ {m = 2 ^ 23} {n = 332307 * 2 ^ 31} tt)) (le_of_eq (mul_right_comm 332307 (2 ^ 31) (down e))))))))

abbrev E : ℕ → ℕ
E b = b % 2147483648 / 8388608

pub domain : (b : ℕ) → b < 2 ^ 32 → Number (of_bits binary32 b) → FromLeast (of_bits binary32 b) → (8388608 ≤ b) × (b ≤ 2139095040)
domain b w n d = go (leb 2147483648 b) refl (leb→le 2147483648 b) (nleb→lt 2147483648 b)
  where
    nb : T (not (nan_bits binary32 b))
    nb = subst (λ (t : Bool). T (not t)) (sym (nan_bits_is binary32 b)) n

    no : T (lt (of_bits binary32 b) low) → ⊥
    no t = T_not (lt (of_bits binary32 b) low) (subst (λ (x : Float). T (not (lt (of_bits binary32 b) x))) least_is d) t

    top : (b : ℕ) → E b ≤ 255
    top b = omega arith

    digits : (b : ℕ) → b % 8388608 * 1 < 2 ^ 23
    digits b = omega arith

    minus : leb 2147483648 b ≡ true → (e : ℕ) → E b ≡ e → (E b ≡ 255) ⊎ (E b < 255) → ⊥
    minus s e x (inl y) = no (subst (λ (z : Float). T (lt z low)) (sym (decode_inf binary32 b y (no_digits binary32 b nb y) ∙ ap inf s)) below_inf)
    minus s zero x (inr y) = no (below_zero (of_bits binary32 b) (b % 8388608 * 2 ^ 0) (2 ^ 149) (subst (λ (t : Bool). HasValue (of_bits binary32 b) t (b % 8388608 * 2 ^ 0) (2 ^ 149)) s (decode_zero binary32 b x)))
    minus s (suc e) x (inr y) =
        no
        (below_zero (of_bits binary32 b) ((8388608 + b % 8388608) * 2 ^ e) (2 ^ 149)
        (subst (λ (t : Bool). HasValue (of_bits binary32 b) t ((8388608 + b % 8388608) * 2 ^ e) (2 ^ 149)) s (decode_suc binary32 b e x (subst (λ (z : ℕ). z < 255) x y))))

    some : leb 2147483648 b ≡ false → E b ≡ 0 → ⊥
    some s e = no (below_small (of_bits binary32 b) (b % 8388608 * 2 ^ 0) (subst (λ (t : Bool). HasValue (of_bits binary32 b) t (b % 8388608 * 2 ^ 0) (2 ^ 149)) s (decode_zero binary32 b e)) (digits b))

    normal : (b : ℕ) → b < 2147483648 → (E b ≡ 0 → ⊥) → 8388608 ≤ b
    normal b h k = pick (leb 8388608 b) (leb→le 8388608 b) (λ (t : T (not (leb 8388608 b))). k (zero_field b h (nleb→lt 8388608 b t)))
      where
        zero_field : (b : ℕ) → b < 2147483648 → b < 8388608 → E b ≡ 0
        zero_field b h k = omega arith

        pick : (t : Bool) → (T t → 8388608 ≤ b) → (T (not t) → ⊥) → 8388608 ≤ b
        pick true x y = x tt
        pick false x y = absurd (y tt)

    most : (b : ℕ) → b < 2147483648 → b % 2147483648 ≤ 2139095040 → b ≤ 2139095040
    most b h k = omega arith

    go : (t : Bool) → leb 2147483648 b ≡ t → (T t → 2147483648 ≤ b) → (T (not t) → b < 2147483648) → (8388608 ≤ b) × (b ≤ 2139095040)
    go true s x y = absurd (minus s (E b) refl (eq-or-lt_of_le (top b)))
    go false s x y = (normal b (y tt) (some s), most b (y tt) (nltb→le 2139095040 (b % 2147483648) (subst (λ (t : Bool). T (not t)) (nan_bits_above binary32 b) nb)))

-- the same of a value's own pattern
pub domain_of : (v : Float) → fits binary32 v ≡ true → Number v → FromLeast v → (8388608 ≤ to_bits binary32 v) × (to_bits binary32 v ≤ 2139095040)
domain_of v held n h =
    let e = sym (back binary32 v held) in
    domain (to_bits binary32 v) (to_bits-lt binary32 v (subst T (sym held) tt)) (subst (λ (x : Float). Number x) e n) (subst (λ (x : Float). FromLeast x) e h)

-- ---- the parts of a value
ln_at_parts : (v : Float) (m j : ℕ) → HasValue v false (m * 2 ^ j) (2 ^ 149) → 2 ^ 23 ≤ m → m < 2 ^ 24 → ln_at v ≡ ln_parts m (j + 1)
unfolding ln_at
ln_at_parts nan m j h a b = absurd h
ln_at_parts (inf s) m j h a b = absurd h
ln_at_parts (fin s m' e) m j h a b =
    let n = m' * up e * 2 ^ 149 / down e in
    let is : n ≡ m * 2 ^ j = ap (λ (x : ℕ). x / down e) h.1 ∙ mul-div_cancel (m * 2 ^ j) (down_pos e) in
    let k : size n - 24 ≡ j =
    ap (λ (x : ℕ). size x - 24) is
    ∙ off (size (m * 2 ^ j)) j
    (size_is (m * 2 ^ j) (23 + j) (le_trans (le_of_eq (pow-add 2 23 j)) (mul-le-mul_right (2 ^ j) a)) (subst (λ (x : ℕ). m * 2 ^ j < 2 ^ x) (next j) (shl_lt 24 j b))) in
    ap (λ (x : ℕ). ln_parts (n / 2 ^ x) (x + 1)) k ∙ ap (λ (x : ℕ). ln_parts (x / 2 ^ j) (j + 1)) is ∙ ap (λ (x : ℕ). ln_parts x (j + 1)) (mul-div_cancel m (pow_pos j))
  where
    off : (z j : ℕ) → z ≡ suc (23 + j) → z - 24 ≡ j
    off z j e = omega arith

    next : (j : ℕ) → 24 + j ≡ suc (23 + j)
    next j = omega arith

pub ln_parts_lem : (b : ℕ) → 8388608 ≤ b → b < 2139095040 → ln_at (of_bits binary32 b) ≡ over binary32 (b / 8388608 * L + odd_of (b % 8388608 * M / (b % 8388608 + 16777216))) (127 * L) M
unfolding ln_parts
ln_parts_lem b h k =
    let j = b / 8388608 - 1 in
    let m = 8388608 + b % 8388608 in
    ln_at_parts (of_bits binary32 b) m j
    (subst (λ (t : Bool). HasValue (of_bits binary32 b) t (m * 2 ^ j) (2 ^ 149)) (is_false (leb 2147483648 b) (small b k)) (decode_suc binary32 b j (field b h k) (room b k)))
    (lead b) (under b)
    ∙ ap (λ (x : ℕ). over binary32 (x * L + odd_of ((m - 8388608) * M / (m + 8388608))) (127 * L) M) (again b h)
    ∙ ap (λ (x : ℕ). over binary32 (b / 8388608 * L + odd_of (x * M / (m + 8388608))) (127 * L) M) (back (b % 8388608))
    ∙ ap (λ (x : ℕ). over binary32 (b / 8388608 * L + odd_of (b % 8388608 * M / x)) (127 * L) M) (sum (b % 8388608))
  where
    small : (b : ℕ) → b < 2139095040 → T (not (leb 2147483648 b))
    small b h = not_leb (leb 2147483648 b) (leb→le 2147483648 b)
      where
        clash : (b : ℕ) → b < 2139095040 → 2147483648 ≤ b → ⊥
        clash b h k = omega arith

        not_leb : (t : Bool) → (T t → 2147483648 ≤ b) → T (not t)
        not_leb true x = absurd (clash b h (x tt))
        not_leb false x = tt

    field : (b : ℕ) → 8388608 ≤ b → b < 2139095040 → b % 2147483648 / 8388608 ≡ suc (b / 8388608 - 1)
    field b h k = omega arith

    room : (b : ℕ) → b < 2139095040 → suc (b / 8388608 - 1) < 255
    room b h = omega arith

    lead : (b : ℕ) → 2 ^ 23 ≤ 8388608 + b % 8388608
    lead b = omega arith

    under : (b : ℕ) → 8388608 + b % 8388608 < 2 ^ 24
    under b = omega arith

    again : (b : ℕ) → 8388608 ≤ b → b / 8388608 - 1 + 1 ≡ b / 8388608
    again b h = omega arith

    back : (t : ℕ) → 8388608 + t - 8388608 ≡ t
    back t = omega arith

    sum : (t : ℕ) → 8388608 + t + 8388608 ≡ t + 16777216
    sum t = omega arith

pub ln_at_nan : ln_at nan ≡ nan
unfolding ln_at
ln_at_nan = refl

pub ln_at_inf : (s : Bool) → ln_at (inf s) ≡ inf s
unfolding ln_at
ln_at_inf s = refl

-- what is no number, or none that is finite, is answered by itself
pub not_finite : (v : Float) → float_is_finite v ≡ false → v ≡ ln_at v
unfolding float_is_finite
not_finite nan e = sym ln_at_nan
not_finite (inf s) e = sym (ln_at_inf s)
not_finite (fin s m d) e = absurd (true≢false e)

finite_number : (v : Float) → float_is_finite v ≡ true → Number v
unfolding float_is_finite is_nan
finite_number nan e = absurd (true≢false (sym e))
finite_number (inf s) e = absurd (true≢false (sym e))
finite_number (fin s m d) e = tt

inf_pattern : of_bits binary32 2139095040 ≡ inf false
unfolding of_bits
inf_pattern = refl

-- from 1e-30 on the pattern of what is finite is a normal value's
pub finite_pattern : (v : Float) → fits binary32 v ≡ true → float_is_finite v ≡ true → FromLeast v → (8388608 ≤ to_bits binary32 v) × (to_bits binary32 v < 2139095040)
unfolding float_is_finite
finite_pattern v held e h = (d.0, below (to_bits binary32 v) d.1 top)
  where
    d : (8388608 ≤ to_bits binary32 v) × (to_bits binary32 v ≤ 2139095040)
    d = domain_of v held (finite_number v e) h

    top : to_bits binary32 v ≡ 2139095040 → ⊥
    top b = true≢false (sym e ∙ ap float_is_finite (sym (back binary32 v held) ∙ ap (of_bits binary32) b ∙ inf_pattern))

    below : (b : ℕ) → b ≤ 2139095040 → (b ≡ 2139095040 → ⊥) → b < 2139095040
    below b h n = omega arith

pub ln_of_pattern : (v r : Float) → fits binary32 v ≡ true → r ≡ ln_at (of_bits binary32 (to_bits binary32 v)) → r ≡ ln_at v
ln_of_pattern v r held e = e ∙ ap ln_at (back binary32 v held)

-- ---- ln_1p
pub t_lt : (t : ℕ) → t ≤ M → 2 * (t * 2147483648 / (8589934592 + t)) < 2 ^ 31
t_lt t h = twice (t * 2147483648 / (8589934592 + t)) ((div-lt_iff_lt-mul (above t)).1 (less t h))
  where
    above : (t : ℕ) → 0 < 8589934592 + t
    above t = omega arith

    less : (t : ℕ) → t ≤ M → t * 2147483648 < 2 ^ 30 * (8589934592 + t)
    less t h = omega arith

    twice : (x : ℕ) → x < 2 ^ 30 → 2 * x < 2 ^ 31
    twice x h = omega arith

pub ln1p_at_nan : ln1p_at nan ≡ nan
unfolding ln1p_at
ln1p_at_nan = refl

pub ln1p_at_is : (x : Float) → T (finite x) → ln1p_at x ≡ round binary32 false (odd_of (2 * (whole_of M x * 2147483648 / (8589934592 + whole_of M x)))) M
unfolding ln1p_at
ln1p_at_is nan h = absurd h
ln1p_at_is (inf s) h = absurd h
ln1p_at_is (fin s m e) h = refl
