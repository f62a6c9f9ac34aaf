-- Where the search for the step starts: 0.61803398875 n is above 0 and at most n, twice it is exact, and so the code rounds it as `round_half` does.
use Rattle.std.proofs.Common.{◌≡◌, ℕ, zero, suc, ◌+◌, ◌-◌, ◌*◌, ◌/◌, ◌%◌, ◌^◌, ◌<◌, ◌≤◌, true, false, ◌&&◌, T, eqb, ltb, leb, ℤ, pos, negsuc, sym, refl, ap, ◌∙◌, true≢false, le_trans, le_of_eq, lt_of_le_of_lt, mul-le-mul_right, mul_assoc, mul_comm, div-lt_iff_lt-mul, add-mul, mul-lt-mul_of_pos_right, lt_of_not-le, mul-one, mul_right_comm, not-le_of_lt, le_of_mul-le-mul_right, mul_left_comm, arith, lit<, ltb→lt, lt→ltb, leb→le, pow-add}
use native.Mathlib.Nat.{min-eq_left, div-le_of_le-mul, add-div_right, div-div-eq-div-mul}
use lib.Pow.{pow-lt}
use lib.Ieee.{Float, nan, inf, fin, binary64, up, down, of_bits, of_int, mul, to_unsigned, round, le, lt, fits}
use lib.Ieee.Fits.{mul-fits, down_pos, and_l, and_r}
use lib.Ieee.Exact.{HasValue, round_exact}
use lib.Ieee.Back.{round_whole}
use lib.Ieee.Nearest.{div_same}
use lib.Ieee.Order.{round_mono}
use lib.Ieee.Positive.{positive, num, den, den_pos, mul_at, between, positive_of_value, own_value, values_of_le}
use Rattle.bits.specs.Step.{golden, round_half, start_of}

pub golden_is : golden ≡ round binary64 false 61803398875 (10 ^ 11)
unfolding of_bits round
golden_is = refl

-- the code's x and x * 2.0
abbrev product : ℕ → Float
product n = mul binary64 (of_int binary64 (pos n)) golden

abbrev two : Float
two = of_bits binary64 0x4000_0000_0000_0000

abbrev twice : Float → Float
twice x = mul binary64 x two

-- ---- the product is an f64 above 0 and at most n
record Between (x : Float) (n : ℕ) : Type 0 where
  above : T (positive x)
  most : num x ≤ n * den x
  held : T (fits binary64 x)

product_between : (n : ℕ) → 0 < n → n ≤ 2 ^ 52 → Between (product n) n
unfolding of_bits of_int round
product_between n h hn =
    let N = round binary64 false n 1 in
    let v : HasValue (round binary64 false n 1) false n 1 = round_whole binary64 false n (omega arith) in
    let p : T (positive (round binary64 false n 1)) = positive_of_value N n 1 v h in
    let x = mul binary64 N golden in
    let is : mul binary64 N golden ≡ round binary64 false (n * num golden) (1 * den golden) =
    mul_at binary64 N golden n 1 (num golden) (den golden) p tt (lit< tt) (den_pos golden) v (own_value golden tt) in
    let low : T (le (round binary64 false 1 2) (mul binary64 N golden)) =
    rw is (round_mono binary64 1 2 (n * num golden) (1 * den golden) (lit< tt) (lit< tt) (omega arith)) in
    let high : T (le (mul binary64 N golden) (round binary64 false n 1)) =
    rw is (round_mono binary64 (n * num golden) (1 * den golden) n 1 (lit< tt) (lit< tt) (omega arith)) in
    let above : T (positive (mul binary64 N golden)) = between (round binary64 false 1 2) x N tt p low high in
    record { above = above; most = omega (arith, values_of_le x N (num x) (den x) n 1 above p (own_value x above) v high); held = mul-fits binary64 N golden }

-- ---- twice an f64 of such a size is an f64
-- m * 2 ^ e is m times a power of two, in units of 2 ^ -l / 2
in_units : (l m : ℕ) (e : ℤ) → down e ≤ 2 ^ l → (j : ℕ) × (m * up e * 2 * 2 ^ l ≡ m * 2 ^ j * down e)
in_units l m e h =
    let s = go e h in
    (s.0, ap (λ (z : ℕ). z * 2 ^ l) (mul_assoc m (up e) 2) ∙ mul_assoc m (up e * 2) (2 ^ l) ∙ ap (λ (z : ℕ). m * z) s.1 ∙ sym (mul_assoc m (2 ^ s.0) (down e)))
  where
    go : (e : ℤ) → down e ≤ 2 ^ l → (j : ℕ) × (up e * 2 * 2 ^ l ≡ 2 ^ j * down e)
    go (pos k) h = (k + 1 + l, sym (mul-one (2 ^ (k + 1 + l)) ∙ pow-add 2 (k + 1) l ∙ ap (λ (z : ℕ). z * 2 ^ l) (pow-add 2 k 1)))
    go (negsuc k) h =
        let b : suc k < suc l = lt_of_not-le (λ g. not-le_of_lt (pow-lt g) h) in
        let e : 1 + (l - suc k) + suc k ≡ 1 + l = omega arith in
        (1 + (l - suc k), sym (sym (pow-add 2 (1 + (l - suc k)) (suc k)) ∙ ap (λ (z : ℕ). 2 ^ z) e ∙ pow-add 2 1 l))

-- a / d ≤ n, and q / k is the same
at_most : (q k a d n : ℕ) → 0 < d → a ≤ n * d → q * d ≡ a * k → q ≤ n * k
at_most q k a d n hd h e = le_of_mul-le-mul_right (le_trans (le_of_eq e) (le_trans (mul-le-mul_right k h) (le_of_eq (mul_right_comm n d k)))) hd

double : (x : Float) (n : ℕ) → n ≤ 2 ^ 52 → Between x n → HasValue (twice x) false (num x * 2) (den x)
unfolding of_bits fits
double nan n hn b = absurd b.above
double (inf s) n hn b = absurd b.above
double (fin true m e) n hn b = absurd b.above
double (fin false zero e) n hn b = absurd b.above
double (fin false (suc m) e) n hn b =
    let x = fin false (suc m) e in
    let A = eqb (suc m % 2) 1 in
    let B = ltb (suc m) (2 ^ 53) in
    let C = leb (down e) (2 ^ 1074) in
    let f : T (A && B && C) = and_l (A && B && C) (ltb (suc m * up e) (2 ^ 1024 * down e)) b.held in
    let u = in_units 1074 (suc m) e (leb→le (down e) (2 ^ 1074) (and_r (A && B) C f)) in
    let q = suc m * 2 ^ u.0 in
    let small : q ≤ n * (2 * 2 ^ 1074) = at_most q (2 * 2 ^ 1074) (num x) (den x) n (down_pos e) b.most (sym u.1 ∙ mul_assoc (num x) 2 (2 ^ 1074)) in
    rw (mul_at binary64 x two (num x) (den x) 2 1 b.above tt (down_pos e) (lit< tt) (own_value x b.above) (own_value two tt), mul-one)
    (round_exact binary64 false (num x * 2) (den x) (suc m) u.0 (down_pos e)
    (ltb→lt (suc m) (2 ^ 53) (and_r A B (and_l (A && B) C f)))
    (lt_of_le_of_lt (le_trans small (mul-le-mul_right (2 * 2 ^ 1074) hn)) (lit< tt))
    u.1)

-- ---- what the cast of a / d to a whole number asks, and what it gives
record Casts (y : Float) (a d : ℕ) : Type 0 where
  low : T (lt (fin true 1 (pos 0)) y)
  high : T (lt y (fin false 1 (pos 64)))
  gives : to_unsigned 64 y ≡ a / d

casts : (y : Float) (a d n : ℕ) → 0 < d → a ≤ n * d → n < 2 ^ 64 → HasValue y false a d → Casts y a d
unfolding lt to_unsigned
casts nan a d n hd h hn v = absurd v
casts (inf s) a d n hd h hn v = absurd v
casts (fin true m e) a d n hd h hn v = absurd (true≢false v.0)
casts (fin false m e) a d n hd h hn v =
    let is : m * up e / down e ≡ a / d = div_same (m * up e) (down e) a d (down_pos e) hd v.1 in
    record {
      low = lt→ltb 0 (1 * 1 * down e + m * up e * 1) (omega (arith, down_pos e));
      high = lt→ltb (m * up e * 1) (1 * 2 ^ 64 * down e) (omega (arith, at_most (m * up e) (down e) a d n hd h v.1, mul-lt-mul_of_pos_right hn (down_pos e)));
      gives = min-eq_left (omega (arith, is, div-le_of_le-mul d {m = a} {n = n} (rw mul_comm h))) ∙ is;
    }

-- ---- (⌊2N / D⌋ + 1) / 2 is ⌊N / D + 1/2⌋, and at most n where N / D is
halves : (N D : ℕ) → 0 < D → (N * 2 / D + 1) / 2 ≡ (2 * N + D) / (2 * D)
halves N D h = rw (← add-div_right (N * 2) h, div-div-eq-div-mul (N * 2 + D) D 2, mul_comm N 2, mul_comm D 2)

half_le : (N D n : ℕ) → 0 < D → N ≤ n * D → (2 * N + D) / (2 * D) ≤ n
half_le N D n h b = omega (arith, (div-lt_iff_lt-mul {k = 2 * D} {x = 2 * N + D} {y = n + 1} (omega arith)).1 (omega (arith, add-mul n 1 (2 * D), mul_left_comm n 2 D)))

module _ (n : ℕ) (h : 0 < n) (hn : n ≤ 2 ^ 52) where
  product_casts : Casts (twice (product n)) (num (product n) * 2) (den (product n))
  product_casts =
      let x = product n in
      let b = product_between n h hn in
      casts (twice x) (num x * 2) (den x) (n * 2) (den_pos x) (omega (arith, b.most, mul_right_comm n 2 (den x))) (omega arith) (double x n hn b)

  pub start_casts : T (lt (fin true 1 (pos 0)) (twice (product n))) × T (lt (twice (product n)) (fin false 1 (pos 64)))
  start_casts = (product_casts.low, product_casts.high)

  pub start_is : (to_unsigned 64 (twice (product n)) + 1) / 2 ≡ start_of n
  unfolding start_of round_half
  start_is = ap (λ (t : ℕ). (t + 1) / 2) product_casts.gives ∙ halves (num (product n)) (den (product n)) (den_pos (product n))

  pub start_le : start_of n ≤ n
  unfolding start_of round_half
  start_le = half_le (num (product n)) (den (product n)) n (den_pos (product n)) (product_between n h hn).most
