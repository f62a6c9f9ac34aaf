-- A difference of whole numbers over a power of two, as the code makes it: casts, exact divisions, a sum that rounds, a sign. Assumes nothing.
use Rattle.std.proofs.Common.{◌≡◌, ℕ, zero, suc, ◌+◌, ◌-◌, ◌*◌, ◌/◌, ◌%◌, ◌^◌, ◌<◌, ◌≤◌, Bool, true, false, cond, not, ltb, leb, pos, sym, refl, ap, ◌∙◌, lt_of_lt_of_le, zero-lt-suc, mul_assoc, mul_comm, add-mul, mul-pos, one-mul, mul-one, mul_right_comm, arith, lit≤, le→leb, pow_pos, pow_mono, shl_lt}
use lib.Arith.{lt→nleb}
use lib.Ieee.{Float, nan, inf, fin, Format, binary32, binary64, prec, emax, low, unlike, up, down, odd, units, round, neg, sum, add, div, of_int, of_bits}
use lib.Ieee.Bits.{is_true, is_false}
use lib.Ieee.Fits.{down_pos, round_is}
use lib.Ieee.Exact.{HasValue, round_exact}
use lib.Ieee.Back.{round_whole}
use lib.Ieee.Scale.{round_same}
use Rattle.elementary.specs.FixedPoint.{M, B, over}

-- ---- the sign goes through
neg_odd : (d : ℕ) (s : Bool) (q k l : ℕ) → neg (odd d s q k l) ≡ odd d (not s) q k l
unfolding neg odd
neg_odd d s zero k l = refl
neg_odd d s (suc q) k l = refl

neg_units : (f : Format) (s : Bool) (q k : ℕ) → neg (units f s q k) ≡ units f (not s) q k
unfolding units
neg_units f s q k = go (ltb (q * 2 ^ k) (2 ^ (low f + suc (emax f))))
  where
    go : (b : Bool) → neg (cond b (odd (suc (prec f)) s q k (low f)) (inf s)) ≡ cond b (odd (suc (prec f)) (not s) q k (low f)) (inf (not s))
    go true = neg_odd (suc (prec f)) s q k (low f)
    go false = unfold neg in refl

pub neg_round : (f : Format) (s : Bool) (a b : ℕ) → neg (round f s a b) ≡ round f (not s) a b
neg_round f s a b = ap neg (round_is f s a b) ∙ neg_units f s _ _ ∙ sym (round_is f (not s) a b)

-- ---- a whole number over 2 ^ j
pub whole_val : (f : Format) (P : ℕ) → P ≤ 2 ^ prec f → HasValue (of_int f (pos P)) false P 1
unfolding of_int
whole_val f P h = round_whole f false P h

div_pow : (f : Format) (X : Float) (P j : ℕ) → HasValue X false P 1 → div f X (fin false 1 (pos j)) ≡ round f false P (2 ^ j)
unfolding div
div_pow f nan P j h = absurd h
div_pow f (inf s) P j h = absurd h
div_pow f (fin s m e) P j h =
    ap (λ (z : Bool). round f (unlike z false) (m * up e * 1) (1 * 2 ^ j * down e)) h.0
    ∙ round_same f false (m * up e * 1) (1 * 2 ^ j * down e) P (2 ^ j) (mul-pos (mul-pos (zero-lt-suc 0) (pow_pos j)) (down_pos e)) (pow_pos j)
    (ap (λ (x : ℕ). x * 2 ^ j) h.1 ∙ mul_assoc P (down e) (2 ^ j) ∙ ap (λ (x : ℕ). P * x) (mul_comm (down e) (2 ^ j) ∙ ap (λ (x : ℕ). x * down e) (sym (one-mul (2 ^ j)))))

quotient_is : (f : Format) (P j : ℕ) → P ≤ 2 ^ prec f → div f (of_int f (pos P)) (fin false 1 (pos j)) ≡ round f false P (2 ^ j)
quotient_is f P j h = div_pow f (of_int f (pos P)) P j (whole_val f P h)

-- ---- d over M, by two exact parts
abbrev by4096 : Float
by4096 = of_bits binary32 0x4580_0000

abbrev by_m : Float
by_m = of_bits binary32 0x4f80_0000

by4096_is : by4096 ≡ fin false 1 (pos 12)
unfolding of_bits
by4096_is = refl

by_m_is : by_m ≡ fin false 1 (pos 32)
unfolding of_bits
by_m_is = refl

-- a sum of two values over one divisor
add_values : (f : Format) (x y : Float) (a b c : ℕ) → 0 < c → HasValue x false a c → HasValue y false b c → add f x y ≡ round f false (a + b) c
unfolding add sum
add_values f nan y a b c C h k = absurd h
add_values f (inf s) y a b c C h k = absurd h
add_values f (fin s m e) nan a b c C h k = absurd k
add_values f (fin s m e) (inf t) a b c C h k = absurd k
add_values f (fin s m e) (fin t n d) a b c C h k =
    ap (λ (z : Bool). sum f z (m * up e * down d) t (n * up d * down e) (down e * down d)) h.0
    ∙ ap (λ (z : Bool). sum f false (m * up e * down d) z (n * up d * down e) (down e * down d)) k.0
    ∙ round_same f false (m * up e * down d + n * up d * down e) (down e * down d) (a + b) c (mul-pos (down_pos e) (down_pos d)) C (cross (m * up e) (n * up d) (down e) (down d) h.1 k.1)
  where
    cross : (x y d e : ℕ) → x * c ≡ a * d → y * c ≡ b * e → (x * e + y * d) * c ≡ (a + b) * (d * e)
    cross x y d e p q =
        add-mul (x * e) (y * d) c
        ∙ ap (λ (z : ℕ). z + y * d * c) (mul_right_comm x e c ∙ ap (λ (z : ℕ). z * e) p ∙ mul_assoc a d e)
        ∙ ap (λ (z : ℕ). a * (d * e) + z) (mul_right_comm y d c ∙ ap (λ (z : ℕ). z * d) q ∙ mul_assoc b e d ∙ ap (λ (z : ℕ). b * z) (mul_comm e d))
        ∙ sym (add-mul a b (d * e))

-- P u / M is a value, for a P of 24 digits and a power u of two
exact : (P u j : ℕ) → P < 2 ^ 24 → j ≤ 200 → u * 2 ^ 149 ≡ 2 ^ j * M → HasValue (round binary32 false (P * u) M) false (P * u) M
exact P u j h k e = round_exact binary32 false (P * u) M P j (pow_pos 32) h (lt_of_lt_of_le (shl_lt 24 j h) (pow_mono (room j k))) (mul_assoc P u (2 ^ 149) ∙ ap (λ (x : ℕ). P * x) e ∙ sym (mul_assoc P (2 ^ j) M))
  where
    room : (j : ℕ) → j ≤ 200 → 24 + j ≤ 277
    room j h = omega arith

pub two_parts : (d : ℕ) → d < 2 ^ 40 → add binary32 (div binary32 (of_int binary32 (pos (d / 1048576))) by4096) (div binary32 (of_int binary32 (pos (d % 1048576))) by_m) ≡ round binary32 false d M
two_parts d h =
    let a = d / 1048576 in
    let b = d % 1048576 in
    let high : div binary32 (of_int binary32 (pos a)) by4096 ≡ round binary32 false (a * 1048576) M =
    ap (λ (x : Float). div binary32 (of_int binary32 (pos a)) x) by4096_is
    ∙ quotient_is binary32 a 12 (omega arith)
    ∙ round_same binary32 false a (2 ^ 12) (a * 1048576) M (pow_pos 12) (pow_pos 32) (omega arith) in
    let low : div binary32 (of_int binary32 (pos b)) by_m ≡ round binary32 false (b * 1) M =
    ap (λ (x : Float). div binary32 (of_int binary32 (pos b)) x) by_m_is
    ∙ quotient_is binary32 b 32 (omega arith)
    ∙ ap (λ (x : ℕ). round binary32 false x M) (sym (mul-one b)) in
    ap (λ (x : Float). add binary32 x (div binary32 (of_int binary32 (pos b)) by_m)) high
    ∙ ap (λ (x : Float). add binary32 (round binary32 false (a * 1048576) M) x) low
    ∙ add_values binary32 (round binary32 false (a * 1048576) M) (round binary32 false (b * 1) M) (a * 1048576) (b * 1) M (pow_pos 32) (exact a 1048576 137 (omega arith) (lit≤ tt) refl) (exact b 1 117 (omega arith) (lit≤ tt) refl)
    ∙ ap (λ (x : ℕ). round binary32 false x M) (omega arith)

-- ---- `over`
pub over_le : (f : Format) (a b c : ℕ) → b ≤ a → over f a b c ≡ round f false (a - b) c
unfolding over
over_le f a b c h = ap (λ (t : Bool). cond t (round f false (a - b) c) (round f true (b - a) c)) (is_true (leb b a) (le→leb b a h))

pub over_lt : (f : Format) (a b c : ℕ) → a < b → over f a b c ≡ round f true (b - a) c
unfolding over
over_lt f a b c h = ap (λ (t : Bool). cond t (round f false (a - b) c) (round f true (b - a) c)) (is_false (leb b a) (lt→nleb b a h))

abbrev div30 : Float
div30 = of_bits binary64 0x41d0_0000_0000_0000

div30_is : div30 ≡ fin false 1 (pos 30)
unfolding of_bits
div30_is = refl

quotient64 : (P : ℕ) → P ≤ 2 ^ 53 → div binary64 (of_int binary64 (pos P)) div30 ≡ round binary64 false P B
quotient64 P h = ap (λ (x : Float). div binary64 (of_int binary64 (pos P)) x) div30_is ∙ quotient_is binary64 P 30 h

pub over64_le : (a b : ℕ) → a < 2 ^ 53 → b ≤ a → div binary64 (of_int binary64 (pos (a - b))) div30 ≡ over binary64 a b B
over64_le a b h k = quotient64 (a - b) (omega arith) ∙ sym (over_le binary64 a b B k)

pub over64_lt : (a b : ℕ) → b < 2 ^ 53 → a < b → neg (div binary64 (of_int binary64 (pos (b - a))) div30) ≡ over binary64 a b B
over64_lt a b h k = ap neg (quotient64 (b - a) (omega arith)) ∙ neg_round binary64 false (b - a) B ∙ sym (over_lt binary64 a b B k)

pub ruleset signs = (neg_round, over_le, over_lt)
