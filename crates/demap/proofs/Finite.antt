-- Which sums are finite, and that no sum of finite floats is a NaN. Assumes nothing.
use Prim.Native.Nat.{ℕ, zero, suc, ◌+◌, ◌-◌, ◌*◌, ◌%◌, ◌^◌, ◌≤◌, ◌<◌, zero-le}
use mathlib.Core.Bool.{Bool, true, false, not, cond, ◌&&◌, beq}
use mathlib.Core.Logic.{inl, inr}
use native.Mathlib.Nat.{le_trans, le_of_eq, le_of_lt, zero-mul, not-le_of_lt, mul-pos, mul-le-mul, mul-le-mul_right, le_of_mul-le-mul_right}
use native.Mathlib.Omega.{arith}
use lib.Dec.{T, ltb, leb, eqb, ltb→lt, lit≤}
use lib.Pow.{pow_pos}
use lib.IntN.{ℤ, pos, negsuc}
use lib.Ieee.{Float, nan, inf, fin, binary32, up, down, neg, add, sub, sum, round, fits, is_nan}
use lib.Ieee.Fits.{and_l, and_r, down_pos}
use lib.Ieee.Positive.{num, den}
use lib.Ieee.Scale.{finite}
use Rattle.ieee.specs.Num.{◌⊞◌, ◌⊟◌}
use Rattle.ieee.specs.Nearest.{Of}
use Rattle.ieee.proofs.Floats.{round_no_nan}
use Rattle.ieee.proofs.RoundNearest.{ties_to_even, none_between}
use Rattle.demap.proofs.Logarithm.{Small}

-- ---- each sum is a rounding

sum_is : (P : Float → Type 0) (s : Bool) (a : ℕ) (t : Bool) (b c : ℕ) → ((u : Bool) (n : ℕ) → n ≤ a + b → P (round binary32 u n c)) → P (sum binary32 s a t b c)
unfolding sum
sum_is P s a t b c f = go (beq s t) (ltb a b)
  where
    go : (p q : Bool) → P (cond p (round binary32 s (a + b) c) (cond q (round binary32 t (b - a) c) (round binary32 (s && ltb b a) (a - b) c)))
    go true q = f s (a + b) (omega arith)
    go false true = f t (b - a) (omega arith)
    go false false = f (s && ltb b a) (a - b) (omega arith)

pub sub_number : (x y : Float) → T (finite x) → T (finite y) → T (not (is_nan (x ⊟ y)))
unfolding sub add neg
sub_number nan y p q = absurd p
sub_number (inf s) y p q = absurd p
sub_number (fin s m e) nan p q = absurd q
sub_number (fin s m e) (inf t) p q = absurd q
sub_number (fin s m e) (fin t n d) p q =
    sum_is (λ (v : Float). T (not (is_nan v))) s (m * up e * down d) (not t) (n * up d * down e) (down e * down d) (λ u k h. round_no_nan binary32 u k (down e * down d))

-- ---- the largest f32 is (2 ^ 24 - 1) * 2 ^ 104

abbrev largest : ℕ
largest = (2 ^ 24 - 1) * 2 ^ 104

at_most : (m : ℕ) (e : ℤ) → m < 2 ^ 24 → m * up e < 2 ^ 128 * down e → m * up e ≤ largest * down e
at_most m (pos k) h l = elim (none_between 24 (2 ^ 24 - 1) 104 m k (lit≤ tt) h (inr (lit≤ tt))) [ inl q ↦ q | inr q ↦ absurd (not-le_of_lt l q) ]
at_most m (negsuc k) h l = mul-le-mul (le_trans (le_of_lt h) (lit≤ tt)) (pow_pos (suc k))

pub max_of : (x : Float) → Of binary32 x → num x ≤ largest * den x
unfolding fits
max_of nan p = absurd p.1
max_of (inf s) p = absurd p.1
max_of (fin s zero e) p = le_trans (le_of_eq (zero-mul (up e))) zero-le
max_of (fin s (suc m) e) p =
    let A : Bool = eqb (suc m % 2) 1 in
    let B : Bool = ltb (suc m) (2 ^ 24) in
    let C : Bool = leb (down e) (2 ^ 149) in
    let D : Bool = ltb (suc m * up e) (2 ^ 128 * down e) in
    at_most (suc m) e (ltb→lt (suc m) (2 ^ 24) (and_r A B (and_l (A && B) C (and_l (A && B && C) D p.0)))) (ltb→lt (suc m * up e) (2 ^ 128 * down e) (and_r (A && B && C) D p.0))

too_large : (2 ^ 25 - 1) * 2 ^ 103 ≤ largest + 127 → ⊥
too_large = not-le_of_lt (lit≤ tt)

bounded : (X k x y e d : ℕ) → x ≤ X * e → y ≤ 127 * d → k ≤ x * d + y * e → k ≤ (X + 127) * (e * d)
bounded X k x y e d p q h = omega (arith, mul-le-mul_right d p, mul-le-mul_right e q)

pub add_finite : (x y : Float) → Of binary32 x → Small 127 y → T (finite (x ⊞ y))
unfolding add
add_finite nan y p q = absurd p.1
add_finite (inf s) y p q = absurd p.1
add_finite (fin s m e) nan p q = absurd q.held
add_finite (fin s m e) (inf t) p q = absurd q.held
add_finite (fin s m e) (fin t n d) p q =
    let a = m * up e * down d in
    let b = n * up d * down e in
    let c = down e * down d in
    let C = mul-pos (down_pos e) (down_pos d) in
    sum_is (λ (v : Float). T (finite v)) s a t b c
    (λ u k h. (ties_to_even binary32 u k c C).else_finite (λ g. too_large (le_of_mul-le-mul_right (le_trans g (bounded largest k (m * up e) (n * up d) (down e) (down d) (max_of (fin s m e) p) q.to h)) C)))
