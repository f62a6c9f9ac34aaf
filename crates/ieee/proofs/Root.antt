-- The integer square root, and the correctly rounded square root of a number of smallest values. Assumes nothing.
use mathlib.Core.Path.{◌≡◌, refl, sym, ap, ◌∙◌, subst}
use Prim.Native.Nat.{ℕ, zero, suc, ◌+◌, ◌-◌, ◌*◌, ◌/◌, ◌%◌, ◌^◌, ◌≤◌, ◌<◌, compare, Ordering}
use native.Mathlib.Nat.{le_trans, le_of_eq, le_of_lt, le_antisymm, le_of_suc-le-suc, lt_irrefl, lt_of_lt_of_le, lt_of_le_of_lt, lt_of_not-le, not-le_of_lt, mul-one, mul_comm, mul_assoc, mul_right_comm, mul-mul-mul_comm, suc-mul, mul-suc, mul-le-mul_right, mul-le-mul_left, mul-le-mul, mul-lt-mul_of_pos_right, mul-pos, le-div_iff_mul-le, div-lt_iff_lt-mul, mul-div_cancel, pow-succ', mul-add}
use native.Mathlib.Omega.{arith}
use mathlib.Core.Bool.{Bool, true, false, not, cond}
use lib.Dec.{T, leb, ltb, leb→le, nleb→lt, ltb→lt, nltb→le}
use lib.Pow.{pow-add, pow_pos}
use lib.Ieee.{Float, nan, inf, fin, Format, prec, low, up, down, size, nearest, units}
use lib.Ieee.Digits.{size-lt}
use lib.Ieee.Fits.{two, two-le_pos, down_pos}
use lib.Ieee.Exact.{HasValue}
use Rattle.ieee.specs.Root.{root_in, isqrt, Near, root_of, rooted}
use Rattle.ieee.proofs.Codec.{size_is, mid_pat, pred_suc_add, Cmp, cmp}

-- ---- squares
pub sq_suc : (a : ℕ) → suc a * suc a ≡ a * a + 2 * a + 1
sq_suc a = let p : suc a * suc a ≡ a * suc a + suc a = suc-mul a (suc a) in let q : a * suc a ≡ a * a + a = mul-suc a a in omega arith

pub sq_two : (a : ℕ) → 2 * a * (2 * a) ≡ 4 * (a * a)
sq_two a = mul-mul-mul_comm 2 a 2 a

-- a smaller square has a smaller root
pub sq_lt : (a b : ℕ) → a * a < b * b → a < b
sq_lt a b h = lt_of_not-le (λ (g : b ≤ a). not-le_of_lt h (mul-le-mul g g))

-- ---- the integer square root
abbrev pub IsRoot : ℕ → ℕ → Type 0
IsRoot n r = (r * r ≤ n) × (n < suc r * suc r)

none : (n : ℕ) → n < 1 → IsRoot n 0
none n h = omega arith

twice : (n a : ℕ) → IsRoot (n / 4) a → (2 * a * (2 * a) ≤ n) × (n < suc (suc (2 * a)) * suc (suc (2 * a)))
twice n a h =
    let p = sq_two a in
    let q = sq_suc a in
    let s = sq_suc (2 * a) in
    let t = sq_suc (suc (2 * a)) in
    omega arith

root_step : (n r : ℕ) → (r * r ≤ n) × (n < suc (suc r) * suc (suc r)) → IsRoot n (cond (leb (suc r * suc r) n) (suc r) r)
root_step n r h = go (leb (suc r * suc r) n) (leb→le (suc r * suc r) n) (nleb→lt (suc r * suc r) n)
  where
    go : (b : Bool) → (T b → suc r * suc r ≤ n) → (T (not b) → n < suc r * suc r) → IsRoot n (cond b (suc r) r)
    go true x y = (x tt, h.1)
    go false x y = (h.0, y tt)

quarter : (n p : ℕ) → n < 2 * p → n / 4 < p
quarter n p h = omega arith

root_in_is : (d n : ℕ) → n < 2 ^ d → IsRoot n (root_in d n)
unfolding root_in
root_in_is zero n h = none n h
root_in_is (suc d) n h = root_step n (2 * root_in d (n / 4)) (twice n (root_in d (n / 4)) (root_in_is d (n / 4) (quarter n (2 ^ d) (subst (λ (x : ℕ). n < x) (pow-succ' 2 d) h))))

pub isqrt_is : (n : ℕ) → IsRoot n (isqrt n)
unfolding isqrt
isqrt_is n = root_in_is (size n) n (size-lt n)

-- ---- the nearest whole number to √S: the r with r (r - 1) < S ≤ r (r + 1)
no_less : (S a b : ℕ) → S ≤ a * a + a → b * b < S + b → a < b → ⊥
no_less S a b h k l =
    let p : b * suc a ≤ b * b = mul-le-mul_left b l in
    let q : b * suc a ≡ b * a + b = mul-suc b a in
    let r : suc a * a ≤ b * a = mul-le-mul_right a l in
    let s : suc a * a ≡ a * a + a = suc-mul a a in
    omega arith

pub unique : (S a b : ℕ) → Near S a → Near S b → a ≡ b
unique S a b h k = le_antisymm (le_of_suc-le-suc (lt_of_not-le (λ (g : suc b ≤ a). no_less S b a k.1 h.0 g))) (le_of_suc-le-suc (lt_of_not-le (λ (g : suc a ≤ b). no_less S a b h.1 k.0 g)))

stay : (S q : ℕ) → 0 < q → IsRoot S q → S ≤ q * q + q → Near S q
stay S q p h k = let a = h.0 in omega arith

move : (S q : ℕ) → IsRoot S q → q * q + q < S → Near S (suc q)
move S q h k = let a = h.1 in let e = sq_suc q in omega arith

compare_lt : (a b : ℕ) → a < b → compare a b ≡ Ordering.lt
compare_lt a b h = go (compare a b) (cmp a b)
  where
    go : (o : Ordering) → Cmp o a b → o ≡ Ordering.lt
    go Ordering.lt c = refl
    go Ordering.eq c = absurd (ne a b h c)
      where
        ne : (a b : ℕ) → a < b → a ≡ b → ⊥
        ne a b h e = omega arith
    go Ordering.gt c = absurd (not-le_of_lt h (le_of_lt c))

compare_gt : (a b : ℕ) → b < a → compare a b ≡ Ordering.gt
compare_gt a b h = go (compare a b) (cmp a b)
  where
    go : (o : Ordering) → Cmp o a b → o ≡ Ordering.gt
    go Ordering.lt c = absurd (not-le_of_lt h (le_of_lt c))
    go Ordering.eq c = absurd (ne a b h c)
      where
        ne : (a b : ℕ) → b < a → a ≡ b → ⊥
        ne a b h e = omega arith
    go Ordering.gt c = refl

odd_square : (q : ℕ) → (2 * q + 1) * (2 * q + 1) ≡ 4 * (q * q) + 4 * q + 1
odd_square q = ap (λ (x : ℕ). x * x) (one_more (2 * q)) ∙ sq_suc (2 * q) ∙ let p = sq_two q in omega arith
  where
    one_more : (n : ℕ) → n + 1 ≡ suc n
    one_more n = omega arith

-- both sides of the test have the factor x * x, for x = 2 ^ k
left_side : (S x : ℕ) → 4 * (S * (x * x)) ≡ 4 * S * (x * x)
left_side S x = sym (mul_assoc 4 S (x * x))

half_lt : (S q : ℕ) → S ≤ q * q + q → 4 * S < (2 * q + 1) * (2 * q + 1)
half_lt S q h = let e = odd_square q in omega arith

half_gt : (S q : ℕ) → q * q + q < S → (2 * q + 1) * (2 * q + 1) < 4 * S
half_gt S q h = let e = odd_square q in omega arith

test_lt : (S q x : ℕ) → 0 < x → S ≤ q * q + q → 4 * (S * (x * x)) < (2 * q + 1) * x * ((2 * q + 1) * x)
test_lt S q x X h =
    lt_of_le_of_lt (le_of_eq (left_side S x))
    (lt_of_lt_of_le (mul-lt-mul_of_pos_right (half_lt S q h) (mul-pos X X)) (le_of_eq (mul-mul-mul_comm (2 * q + 1) (2 * q + 1) x x)))

test_gt : (S q x : ℕ) → 0 < x → q * q + q < S → (2 * q + 1) * x * ((2 * q + 1) * x) < 4 * (S * (x * x))
test_gt S q x X h =
    lt_of_le_of_lt (le_of_eq (mul-mul-mul_comm (2 * q + 1) x (2 * q + 1) x))
    (lt_of_lt_of_le (mul-lt-mul_of_pos_right (half_gt S q h) (mul-pos X X)) (le_of_eq (sym (left_side S x))))

-- the rounding that `root_of` does, at a square that is S * x * x
pick : (S q x r : ℕ) → 0 < x → 0 < q → IsRoot S q → Near S r → nearest q (compare (4 * (S * (x * x))) ((2 * q + 1) * x * ((2 * q + 1) * x))) ≡ r
pick S q x r X Q h n = go (ltb (q * q + q) S) (ltb→lt (q * q + q) S) (nltb→le (q * q + q) S)
  where
    go : (b : Bool) → (T b → q * q + q < S) → (T (not b) → S ≤ q * q + q) → nearest q (compare (4 * (S * (x * x))) ((2 * q + 1) * x * ((2 * q + 1) * x))) ≡ r
    go true u v = ap (λ (o : Ordering). nearest q o) (compare_gt (4 * (S * (x * x))) ((2 * q + 1) * x * ((2 * q + 1) * x)) (test_gt S q x X (u tt))) ∙ unique S (suc q) r (move S q h (u tt)) n
    go false u v = ap (λ (o : Ordering). nearest q o) (compare_lt (4 * (S * (x * x))) ((2 * q + 1) * x * ((2 * q + 1) * x)) (test_lt S q x X (v tt))) ∙ unique S q r (stay S q Q h (v tt)) n

abbrev pub shaped : Format → ℕ → ℕ → ℕ → Float
shaped f N k q = units f false (nearest q (compare (4 * N) ((2 * q + 1) * 2 ^ k * ((2 * q + 1) * 2 ^ k)))) k

pub root_of_shaped : (f : Format) (N : ℕ) → root_of f N ≡ shaped f N (size (isqrt N) - prec f) (isqrt N / 2 ^ (size (isqrt N) - prec f))
unfolding root_of
root_of_shaped f N = refl

pub root_is : (f : Format) (S k r : ℕ) → 2 ^ (prec f - 1) * 2 ^ (prec f - 1) ≤ S → S < 2 ^ prec f * 2 ^ prec f → Near S r → root_of f (S * (2 ^ k * 2 ^ k)) ≡ units f false r k
root_is f S k r lo hi n =
    let p = prec f in
    let P : 0 < p = two-le_pos p (two f) in
    let x = 2 ^ k in
    let X : 0 < x = pow_pos k in
    let N = S * (x * x) in
    let w = isqrt N in
    let W = isqrt_is N in
    let q = isqrt S in
    let R = isqrt_is S in
    let under : q * x ≤ w =
    le_of_suc-le-suc (sq_lt (q * x) (suc w) (lt_of_le_of_lt (le_trans (le_of_eq (mul-mul-mul_comm q x q x)) (mul-le-mul_right (x * x) R.0)) W.1)) in
    let over : w < suc q * x =
    sq_lt w (suc q * x) (lt_of_le_of_lt W.0 (lt_of_lt_of_le (mul-lt-mul_of_pos_right R.1 (mul-pos X X)) (le_of_eq (mul-mul-mul_comm (suc q) (suc q) x x)))) in
    let is : w / x ≡ q = le_antisymm (le_of_suc-le-suc ((div-lt_iff_lt-mul X).1 over)) ((le-div_iff_mul-le X).1 under) in
    let q_ge : 2 ^ (p - 1) ≤ q = le_of_suc-le-suc (sq_lt (2 ^ (p - 1)) (suc q) (lt_of_le_of_lt lo R.1)) in
    let q_lt : q < 2 ^ p = sq_lt q (2 ^ p) (lt_of_le_of_lt R.0 hi) in
    let w_ge : 2 ^ (p - 1 + k) ≤ w = le_trans (le_of_eq (pow-add 2 (p - 1) k)) (le_trans (mul-le-mul_right x q_ge) under) in
    let w_lt : w < 2 ^ suc (p - 1 + k) = lt_of_lt_of_le over (le_trans (mul-le-mul_right x q_lt) (le_of_eq (sym (ap (λ (z : ℕ). 2 ^ z) (pred_suc_add p k P) ∙ pow-add 2 p k)))) in
    let d : size w - p ≡ k = mid_pat p k (size w) P (size_is w (p - 1 + k) w_ge w_lt) in
    root_of_shaped f N
    ∙ ap (λ (j : ℕ). shaped f N j (w / 2 ^ j)) d
    ∙ ap (λ (z : ℕ). shaped f N k z) is
    ∙ ap (λ (z : ℕ). units f false z k) (pick S q x r X (lt_of_lt_of_le (pow_pos (p - 1)) q_ge) R n)

-- ---- √ of a value that is n smallest values
pub rooted_at : (f : Format) (x : Float) (n : ℕ) → 0 < n → HasValue x false n (2 ^ low f) → rooted f x ≡ root_of f (n * 2 ^ low f)
unfolding rooted
rooted_at f nan n p h = absurd h
rooted_at f (inf s) n p h = absurd h
rooted_at f (fin s zero e) n p h = absurd (lt_irrefl 0 (subst (λ (z : ℕ). 0 < z) (sym h.1 ∙ nothing (up e) (2 ^ low f)) (mul-pos p (down_pos e))))
  where
    nothing : (a b : ℕ) → 0 * a * b ≡ 0
    nothing a b = let z : 0 * a ≡ 0 = omega arith in ap (λ (y : ℕ). y * b) z ∙ let u : 0 * b ≡ 0 = omega arith in u
rooted_at f (fin s (suc m) e) n p h =
    let l = 2 ^ low f in
    ap (λ (t : Bool). cond t nan (root_of f (suc m * up e * (l * l) / down e))) h.0
    ∙ ap (λ (z : ℕ). root_of f z)
    (ap (λ (z : ℕ). z / down e) (sym (mul_assoc (suc m * up e) l l) ∙ ap (λ (z : ℕ). z * l) h.1 ∙ mul_right_comm n (down e) l) ∙ mul-div_cancel (n * l) (down_pos e))

-- ---- the pieces that the code has: m with all its digits, and the exponent w of 2 ^ w smallest values
halves : (w : ℕ) → w ≡ w % 2 + (w / 2 + w / 2)
halves w = omega arith

scale_up : (m p r x : ℕ) → m * (p * (r * (x * x))) ≡ m * r * p * (x * x)
scale_up m p r x = simp (mul_assoc, mul_comm)

par : (w : ℕ) → 2 ^ (w % 2) ≡ 1 + w % 2
par w = go (w % 2) (below w)
  where
    below : (w : ℕ) → w % 2 < 2
    below w = omega arith

    go : (b : ℕ) → b < 2 → 2 ^ b ≡ 1 + b
    go zero h = refl
    go (suc zero) h = refl
    go (suc (suc b)) h = absurd (big b h)
      where
        big : (b : ℕ) → suc (suc b) < 2 → ⊥
        big b h = omega arith

pub parts : (m d w : ℕ) → m * 2 ^ (d + w) ≡ m * (1 + w % 2) * 2 ^ d * (2 ^ (w / 2) * 2 ^ (w / 2))
parts m d w =
    ap (λ (z : ℕ). m * z)
    (pow-add 2 d w ∙ ap (λ (z : ℕ). 2 ^ d * z) (ap (λ (z : ℕ). 2 ^ z) (halves w) ∙ pow-add 2 (w % 2) (w / 2 + w / 2) ∙ ap (λ (z : ℕ). 2 ^ (w % 2) * z) (pow-add 2 (w / 2) (w / 2))))
    ∙ ap (λ (z : ℕ). m * (2 ^ d * (z * (2 ^ (w / 2) * 2 ^ (w / 2))))) (par w)
    ∙ scale_up m (2 ^ d) (1 + w % 2) (2 ^ (w / 2))

-- ---- the search for the nearest root
next_mul : (r : ℕ) → r * (r + 1) ≡ r * r + r
next_mul r = mul-add r r 1 ∙ ap (λ (x : ℕ). r * r + x) (mul-one r)

pub small_root : (p r s : ℕ) → r * (r + 1) < s → s ≤ 2 ^ p * 2 ^ p → r < 2 ^ p
small_root p r s h k = sq_lt r (2 ^ p) (go (r * r) (r * (r + 1)) (2 ^ p * 2 ^ p) (next_mul r) h k)
  where
    go : (x z t : ℕ) → z ≡ x + r → z < s → s ≤ t → x < t
    go x z t e h k = omega arith

-- the nearest root of what has 2 p digits has p, or is 2 ^ p
pub near_small : (p s r : ℕ) → Near s r → s ≤ 2 ^ p * 2 ^ p → r ≤ 2 ^ p
near_small p s zero h k = omega arith
near_small p s (suc a) h k = small_root p a s (below (a * (a + 1)) (suc a * suc a) (omega (arith, sq_suc a, next_mul a)) h.0) k
  where
    below : (x q : ℕ) → q ≡ x + suc a → q < s + suc a → x < s
    below x q e h = omega arith
