-- |x| M rounded down, from the bit pattern of x, and how large it is. Assumes nothing.
use Rattle.std.proofs.Common.{◌≡◌, ℕ, zero, suc, ◌+◌, ◌-◌, ◌*◌, ◌/◌, ◌%◌, ◌^◌, ◌<◌, ◌≤◌, Bool, true, false, not, T, leb, ◌⊎◌, sym, refl, ap, ◌∙◌, subst, inl, inr, zero-le, le_trans, le_of_eq, lt_of_lt_of_le, le_of_suc-le-suc, mul-le-mul_right, mul_assoc, mul-le-mul, eq-or-lt_of_le, one-mul, lt_of_not-le, zero-mul, mul-one, mul_right_comm, not-le_of_lt, le_of_mul-le-mul_right, mul-div_cancel, arith, lit<, lit≤, nltb→le, pow_pos, pow_mono, pow-add, shl_lt, shl_exact}
use native.Mathlib.Nat.{div-eq_of_lt, div-le_of_le-mul}
use Rattle.std.proofs.lemmas.Bool.{ltb-false}
use lib.Ieee.{Float, nan, inf, fin, binary32, up, down, lt, neg, fits, of_bits, to_bits, is_nan}
use lib.Ieee.Bits.{nan_bits_is}
use lib.Ieee.Fits.{down_pos}
use lib.Ieee.Exact.{HasValue}
use lib.Ieee.Nearest.{div_same}
use lib.Ieee.Scale.{finite}
use lib.Ieee.Positive.{num, den, den_pos}
use Rattle.ieee.proofs.Codec.{decode_zero, decode_suc, decode_inf, no_digits}
use Rattle.ieee.proofs.Floats.{back}
use Rattle.elementary.specs.Constants.{minus87}
use Rattle.elementary.specs.Domain.{Number, NotAbove, InUnit}
use Rattle.elementary.specs.FixedPoint.{M, whole_of}

-- ---- the exponent field and the 24 digits of a pattern
whole_at : (x : Float) (s : Bool) (n : ℕ) → HasValue x s n (2 ^ 149) → whole_of M x ≡ n / 2 ^ 117
unfolding whole_of
whole_at nan s n h = absurd h
whole_at (inf t) s n h = absurd h
whole_at (fin t m e) s n h = div_same (m * up e * M) (down e) n (2 ^ 117) (down_pos e) (pow_pos 117) (mul_assoc (m * up e) M (2 ^ 117) ∙ h.1)

abbrev E : ℕ → ℕ
E b = b % 2147483648 / 8388608

abbrev D : ℕ → ℕ
D b = 8388608 + b % 8388608

D-lt : (b : ℕ) → D b < 2 ^ 24
D-lt b = omega arith

at_suc : (b x : ℕ) → E b ≡ suc x → suc x < 255 → whole_of M (of_bits binary32 b) ≡ D b * 2 ^ x / 2 ^ 117
at_suc b x e h = whole_at (of_bits binary32 b) (leb 2147483648 b) (D b * 2 ^ x) (decode_suc binary32 b x e h)

pub whole_large : (b : ℕ) → 118 ≤ E b → E b ≤ 133 → D b * 2 ^ (E b - 118) % 2 ^ 64 ≡ whole_of M (of_bits binary32 b)
whole_large b h k =
    let j = E b - 118 in
    shl_exact 24 j 64 (D-lt b) (room (E b) k)
    ∙ sym
    (at_suc b (j + 117) (next (E b) h) (less (E b) h k)
    ∙ ap (λ (x : ℕ). D b * x / 2 ^ 117) (pow-add 2 j 117)
    ∙ ap (λ (x : ℕ). x / 2 ^ 117) (sym (mul_assoc (D b) (2 ^ j) (2 ^ 117)))
    ∙ mul-div_cancel (D b * 2 ^ j) (pow_pos 117))
  where
    room : (e : ℕ) → e ≤ 133 → 24 + (e - 118) ≤ 64
    room e h = omega arith

    next : (e : ℕ) → 118 ≤ e → e ≡ suc (e - 118 + 117)
    next e h = omega arith

    less : (e : ℕ) → 118 ≤ e → e ≤ 133 → suc (e - 118 + 117) < 255
    less e h k = omega arith

pub whole_mid : (b : ℕ) → 94 < E b → E b < 118 → D b / 2 ^ (118 - E b) ≡ whole_of M (of_bits binary32 b)
whole_mid b h k =
    let d = 118 - E b in
    let x = E b - 1 in
    sym
    (at_suc b x (next (E b) h) (less (E b) k)
    ∙ div_same (D b * 2 ^ x) (2 ^ 117) (D b) (2 ^ d) (pow_pos 117) (pow_pos d)
    (mul_assoc (D b) (2 ^ x) (2 ^ d) ∙ ap (λ (y : ℕ). D b * y) (sym (pow-add 2 x d) ∙ ap (λ (y : ℕ). 2 ^ y) (whole (E b) h k))))
  where
    next : (e : ℕ) → 94 < e → e ≡ suc (e - 1)
    next e h = omega arith

    less : (e : ℕ) → e < 118 → suc (e - 1) < 255
    less e h = omega arith

    whole : (e : ℕ) → 94 < e → e < 118 → e - 1 + (118 - e) ≡ 117
    whole e h k = omega arith

pub whole_small : (b : ℕ) → E b ≤ 94 → 0 ≡ whole_of M (of_bits binary32 b)
whole_small b h = sym (go (E b) refl h)
  where
    t_lt : (b : ℕ) → b % 8388608 < 2 ^ 24
    t_lt b = omega arith

    less : (x : ℕ) → suc x ≤ 94 → suc x < 255
    less x h = omega arith

    room : (x : ℕ) → suc x ≤ 94 → 24 + x ≤ 117
    room x h = omega arith

    go : (e : ℕ) → E b ≡ e → e ≤ 94 → whole_of M (of_bits binary32 b) ≡ 0
    go zero e l =
        whole_at (of_bits binary32 b) (leb 2147483648 b) (b % 8388608 * 2 ^ 0) (decode_zero binary32 b e)
        ∙ div-eq_of_lt (lt_of_lt_of_le (shl_lt 24 0 (t_lt b)) (pow_mono {i = 24} {j = 117} (lit≤ tt)))
    go (suc x) e l = at_suc b x e (less x l) ∙ div-eq_of_lt (lt_of_lt_of_le (shl_lt 24 x (D-lt b)) (pow_mono (room x l)))

-- ---- what the two tests say of x
abbrev pub Bounded : Float → Type 0
Bounded x = T (finite x) × (num x ≤ 87 * den x)

clash : true ≡ false → ⊥
clash e = subst T e tt

pub bounded : (x : Float) → Number x → NotAbove x → lt x minus87 ≡ false → Bounded x
unfolding is_nan lt of_bits neg
bounded nan n p e = absurd n
bounded (inf true) n p e = absurd (clash e)
bounded (inf false) n p e = absurd p
bounded (fin false m d) n p e =
    (tt, le_trans (le_of_eq (sym (mul-one (m * up d)))) (le_trans (nltb→le (0 * down d) (m * up d * 1) p) (le_trans (le_of_eq (zero-mul (down d))) zero-le)))
bounded (fin true m d) n p e = (tt, le_trans (le_of_eq (sym (mul-one (m * up d)))) (ltb-false (87 * down d) (m * up d * 1) e))

pub whole_le : (x : Float) → Bounded x → whole_of M x ≤ 87 * M
unfolding whole_of
whole_le nan h = absurd h.0
whole_le (inf s) h = absurd h.0
whole_le (fin s m e) h = div-le_of_le-mul (down e) (le_trans (mul-le-mul_right M h.1) (le_of_eq (turn (down e))))
  where
    turn : (d : ℕ) → 87 * d * M ≡ d * (87 * M)
    turn d = omega arith

value→cross : (x : Float) (s : Bool) (a c : ℕ) → HasValue x s a c → num x * c ≡ a * den x
value→cross nan s a c h = absurd h
value→cross (inf t) s a c h = absurd h
value→cross (fin t m e) s a c h = h.1

pub field_le : (b : ℕ) → Number (of_bits binary32 b) → Bounded (of_bits binary32 b) → E b ≤ 133
field_le b n h = le_of_suc-le-suc (lt_of_not-le (λ (g : 134 ≤ E b). go g (eq-or-lt_of_le (top b))))
  where
    top : (b : ℕ) → E b ≤ 255
    top b = omega arith

    next : (e : ℕ) → 134 ≤ e → e ≡ suc (e - 1)
    next e h = omega arith

    less : (e : ℕ) → 134 ≤ e → e < 255 → suc (e - 1) < 255
    less e h k = omega arith

    far : (e : ℕ) → 134 ≤ e → 133 ≤ e - 1
    far e h = omega arith

    lead : (b : ℕ) → 2 ^ 23 ≤ D b
    lead b = omega arith

    no_inf : (s : Bool) → of_bits binary32 b ≡ inf s → ⊥
    no_inf s e = subst (λ (x : Float). T (finite x)) e h.0

    go : 134 ≤ E b → (E b ≡ 255) ⊎ (E b < 255) → ⊥
    go g (inl e) = no_inf (leb 2147483648 b) (decode_inf binary32 b e (no_digits binary32 b (subst (λ (t : Bool). T (not t)) (sym (nan_bits_is binary32 b)) n) e))
    go g (inr l) =
        let x = of_bits binary32 b in
        let v = D b * 2 ^ (E b - 1) in
        let c : num x * 2 ^ 149 ≡ v * den x = value→cross x (leb 2147483648 b) v (2 ^ 149) (decode_suc binary32 b (E b - 1) (next (E b) g) (less (E b) g l)) in
        let up_to : v * den x ≤ 87 * 2 ^ 149 * den x = le_trans (le_of_eq (sym c)) (le_trans (mul-le-mul_right (2 ^ 149) h.1) (le_of_eq (mul_right_comm 87 (den x) (2 ^ 149)))) in
        let cut : v ≤ 87 * 2 ^ 149 = le_of_mul-le-mul_right up_to (den_pos x) in
        not-le_of_lt (lt_of_lt_of_le (lit< {m = 87 * 2 ^ 149} {n = 2 ^ 23 * 2 ^ 133} tt) (mul-le-mul (lead b) (pow_mono (far (E b) g)))) cut

pub in_unit : (x : Float) → Number x → InUnit x → T (finite x) × (num x ≤ den x)
unfolding is_nan lt of_bits
in_unit nan n p = absurd n
in_unit (inf true) n p = absurd p.0
in_unit (inf false) n p = absurd p.1
in_unit (fin false m e) n p = (tt, le_trans (le_of_eq (sym (mul-one (m * up e)))) (le_trans (nltb→le (1 * 1 * down e) (m * up e * 1) p.1) (le_of_eq (one-mul (down e)))))
in_unit (fin true m e) n p = (tt, none (m * up e) (0 * 1 * down e) (down e) (nltb→le 0 (m * up e * 1 + 0 * 1 * down e) p.0))
  where
    none : (x y d : ℕ) → x * 1 + y ≤ 0 → x ≤ d
    none x y d h = omega arith

pub unit_bounded : (x : Float) → T (finite x) × (num x ≤ den x) → Bounded x
unit_bounded x h = (h.0, le_trans h.1 (more (den x)))
  where
    more : (d : ℕ) → d ≤ 87 * d
    more d = omega arith

pub unit_whole : (x : Float) → T (finite x) × (num x ≤ den x) → whole_of M x ≤ M
unfolding whole_of
unit_whole nan h = absurd h.0
unit_whole (inf s) h = absurd h.0
unit_whole (fin s m e) h = div-le_of_le-mul (down e) (mul-le-mul_right M h.1)

-- ---- the exponent field of a value's own pattern
pub field_of : (x : Float) → fits binary32 x ≡ true → Number x → Bounded x → E (to_bits binary32 x) ≤ 133
field_of x held n h =
    let e = sym (back binary32 x held) in
    field_le (to_bits binary32 x) (subst (λ (y : Float). Number y) e n) (subst (λ (y : Float). Bounded y) e h)

pub ruleset shifts = (whole_large, whole_mid, whole_small)
