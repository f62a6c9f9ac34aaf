-- The nearest value to a root, told by powers: `NearestRoot` from where the root lies between q * 2 ^ k and (q + 1) * 2 ^ k units; and the square root. Assumes nothing.
use mathlib.Core.Path.{◌≡◌, refl, sym, ap, ◌∙◌, subst}
use mathlib.Core.Logic.{◌⊎◌, inl, inr}
use Prim.Native.Nat.{ℕ, zero, suc, ◌+◌, ◌-◌, ◌*◌, ◌/◌, ◌%◌, ◌^◌, ◌≤◌, ◌<◌, zero-le, compare, Ordering}
use native.Mathlib.Nat.{le_trans, le_of_eq, le_of_lt, le_antisymm, lt_irrefl, lt_of_lt_of_le, lt_of_le_of_lt, eq-or-lt_of_le, eq-zero-or-pos, zero-lt-suc, zero-mul, one-mul, mul_comm, mul_assoc, mul_left_comm, mul_right_comm, mul-mul-mul_comm, suc-mul, add-mul, mul-le-mul, mul-le-mul_right, mul-le-mul_left, mul-lt-mul_of_pos_right, lt_of_mul-lt-mul_right, le_of_mul-le-mul_right, eq_of_mul-eq-mul_right, mul-pos, pow-zero, pow-suc, pow-succ', pow-le-pow_left, pow-lt-pow_left, div-mul-le_self, div-lt_iff_lt-mul, le-div_iff_mul-le, lt-suc_self}
use native.Mathlib.Omega.{arith}
use mathlib.Core.Bool.{Bool, true, false, ◌&&◌, cond, true≢false}
use lib.Dec.{T, leb, ltb, eqb, ltb→lt, lit≤}
use Rattle.std.proofs.lemmas.Nat.{mul-pow}
use lib.Pow.{pow-add, pow_pos, pow_mono, pow-lt}
use lib.IntN.{ℤ}
use lib.Ieee.{Float, nan, inf, fin, Format, binary32, binary64, prec, emax, low, up, down, size, nearest, units, lt, fits}
use lib.Ieee.Digits.{size_reaches}
use lib.Ieee.Fits.{two, two-le_pos, and_r, up_pos, nearest-le, kept-lt, odd-fits}
use lib.Ieee.Exact.{HasValue, units_val}
use lib.Ieee.Nearest.{nearest-ge}
use lib.Ieee.Scale.{finite, overflow}
use lib.Ieee.Positive.{num, den, den_pos, positive}
use Rattle.ieee.specs.Root.{isqrt, rooted}
use Rattle.ieee.specs.Nearest.{sign, Of, EvenDigit, total, mid_power, root_power, NearestRoot, RootToNearest}
use Rattle.ieee.proofs.Codec.{Lead, Cmp, cmp, units_odd}
use Rattle.ieee.proofs.Root.{sq_lt, isqrt_is, root_of_shaped, rooted_at}
use Rattle.ieee.proofs.RoundNearest.{Steps, steps_of, none_between, pick, tie_even, Outside, cross, sign_of, sub_mul, even_digit, same_value, value_finite, all_in_use}

-- ---- powers
pub power_pos : (x j : ℕ) → 0 < x → 0 < x ^ j
power_pos x zero h = le_of_eq (sym (pow-zero x))
power_pos x (suc j) h = lt_of_lt_of_le (mul-pos (power_pos x j h) h) (le_of_eq (sym (pow-suc x j)))

pub pos_ne : (j : ℕ) → 0 < j → j ≡ 0 → ⊥
pos_ne j h e = omega arith

-- ---- The numbers A ≤ root ≤ A + u, in units, and C the nearer. K is the j-th power of twice the root, times b; z is a number that is not between the two.
module _ (j b K A u : ℕ) (J : 0 < j) (B : 0 < b) where
  abbrev pw : ℕ → ℕ
  pw x = x ^ j * b

  up_le : (x y : ℕ) → x ≤ y → pw x ≤ pw y
  up_le x y h = mul-le-mul_right b (pow-le-pow_left h j)

  up_lt : (x y : ℕ) → x < y → pw x < pw y
  up_lt x y h = mul-lt-mul_of_pos_right (pow-lt-pow_left h (pos_ne j J)) B

  abbrev Half : ℕ → Type 0
  Half C = ((C ≡ A) × (K ≤ pw (A + (A + u)))) ⊎ ((C ≡ A + u) × (pw (A + (A + u)) ≤ K))

  module _ (from : pw (A + A) ≤ K) (upto : K < pw (A + u + (A + u))) where
    root_above : (C z : ℕ) → Half C → Outside A u z → C < z → K ≤ pw (C + z)
    root_above C z (inl (e, h)) o l = le_trans h (up_le (A + (A + u)) (C + z) (far o))
      where
        far : Outside A u z → A + (A + u) ≤ C + z
        far (inl g) = omega arith
        far (inr g) = omega arith
    root_above C z (inr (e, h)) o l = le_trans (le_of_lt upto) (up_le (A + u + (A + u)) (C + z) (far e l))
      where
        far : C ≡ A + u → C < z → A + u + (A + u) ≤ C + z
        far e l = omega arith

    root_below : (C z : ℕ) → Half C → Outside A u z → z < C → pw (C + z) ≤ K
    root_below C z (inl (e, h)) o l = le_trans (up_le (C + z) (A + A) (near e l)) from
      where
        near : C ≡ A → z < C → C + z ≤ A + A
        near e l = omega arith
    root_below C z (inr (e, h)) o l = le_trans (up_le (C + z) (A + (A + u)) (near o)) h
      where
        near : Outside A u z → C + z ≤ A + (A + u)
        near (inl g) = omega arith
        near (inr g) = omega arith

    root_tie : (C z : ℕ) → Half C → Outside A u z → (z ≡ C → ⊥) → pw (C + z) ≡ K → K ≡ pw (A + (A + u))
    root_tie C z (inl (e, h)) o d t = go o
      where
        less : z ≤ A → C + z < A + A
        less g = strict (eq-or-lt_of_le g)
          where
            strict : (z ≡ A) ⊎ (z < A) → C + z < A + A
            strict (inl x) = absurd (d (x ∙ sym e))
            strict (inr x) = omega arith

        far : A + u ≤ z → A + (A + u) ≤ C + z
        far g = omega arith

        go : Outside A u z → K ≡ pw (A + (A + u))
        go (inl g) = absurd (lt_irrefl K (lt_of_le_of_lt (le_of_eq (sym t)) (lt_of_lt_of_le (up_lt (C + z) (A + A) (less g)) from)))
        go (inr g) = le_antisymm h (le_trans (up_le (A + (A + u)) (C + z) (far g)) (le_of_eq t))
    root_tie C z (inr (e, h)) o d t = go o
      where
        more : A + u ≤ z → A + u + (A + u) < C + z
        more g = strict (eq-or-lt_of_le g)
          where
            strict : (A + u ≡ z) ⊎ (A + u < z) → A + u + (A + u) < C + z
            strict (inl x) = absurd (d (sym x ∙ sym e))
            strict (inr x) = omega arith

        near : z ≤ A → C + z ≤ A + (A + u)
        near g = omega arith

        go : Outside A u z → K ≡ pw (A + (A + u))
        go (inl g) = le_antisymm (le_trans (le_of_eq (sym t)) (up_le (C + z) (A + (A + u)) (near g))) h
        go (inr g) = absurd (lt_irrefl K (lt_of_lt_of_le upto (le_trans (le_of_lt (up_lt (A + u + (A + u)) (C + z) (more g))) (le_of_eq t))))

-- ---- from units to the values as fractions
module _ (j a b l : ℕ) (v y : Float) (W Y : ℕ) (hv : HasValue v false W l) (hy : HasValue y (sign y) Y l) where
  D : ℕ
  D = den v * den y

  root_side : root_power j a v y * l ^ j ≡ a * (2 * l) ^ j * D ^ j
  unfolding D
  root_side =
      ap (λ (x : ℕ). a * x * l ^ j) (mul-pow 2 (den v * den y) j)
      ∙ turn a (2 ^ j) ((den v * den y) ^ j) (l ^ j)
      ∙ ap (λ (x : ℕ). a * x * (den v * den y) ^ j) (sym (mul-pow 2 l j))
    where
      turn : (a p d l : ℕ) → a * (p * d) * l ≡ a * (p * l) * d
      turn a p d l = simp (mul_assoc, mul_comm)

  first : num v * den y * l ≡ W * D
  unfolding D
  first = mul_right_comm (num v) (den y) l ∙ ap (λ (x : ℕ). x * den y) (cross v false W l hv) ∙ mul_assoc W (den v) (den y)

  second : num y * den v * l ≡ Y * D
  unfolding D
  second = mul_right_comm (num y) (den v) l ∙ ap (λ (x : ℕ). x * den v) (cross y (sign y) Y l hy) ∙ mul_assoc Y (den y) (den v) ∙ ap (λ (x : ℕ). Y * x) (mul_comm (den y) (den v))

  abbrev joined : ℕ
  joined = cond (sign y) (W - Y) (W + Y)

  total_at : total v y * l ≡ joined * D
  total_at = go (sign y)
    where
      go : (t : Bool) → cond t (num v * den y - num y * den v) (num v * den y + num y * den v) * l ≡ cond t (W - Y) (W + Y) * D
      go true = sub_mul (num v * den y) (num y * den v) l ∙ ap (λ (x : ℕ). x - num y * den v * l) first ∙ ap (λ (x : ℕ). W * D - x) second ∙ sym (sub_mul W Y D)
      go false = add-mul (num v * den y) (num y * den v) l ∙ ap (λ (x : ℕ). x + num y * den v * l) first ∙ ap (λ (x : ℕ). W * D + x) second ∙ sym (add-mul W Y D)

  mid_side : mid_power j b v y * l ^ j ≡ joined ^ j * b * D ^ j
  mid_side =
      mul_right_comm (total v y ^ j) b (l ^ j)
      ∙ ap (λ (x : ℕ). x * b) (sym (mul-pow (total v y) l j) ∙ ap (λ (x : ℕ). x ^ j) total_at ∙ mul-pow joined D j)
      ∙ mul_right_comm (joined ^ j) (D ^ j) b

  module _ (L : 0 < l) where
    mid_le : joined ^ j * b ≤ a * (2 * l) ^ j → mid_power j b v y ≤ root_power j a v y
    mid_le h = le_of_mul-le-mul_right (le_trans (le_of_eq mid_side) (le_trans (mul-le-mul_right (D ^ j) h) (le_of_eq (sym root_side)))) (power_pos l j L)

    le_mid : a * (2 * l) ^ j ≤ joined ^ j * b → root_power j a v y ≤ mid_power j b v y
    le_mid h = le_of_mul-le-mul_right (le_trans (le_of_eq root_side) (le_trans (mul-le-mul_right (D ^ j) h) (le_of_eq (sym mid_side)))) (power_pos l j L)

    pub mid_eq : mid_power j b v y ≡ root_power j a v y → joined ^ j * b ≡ a * (2 * l) ^ j
    unfolding D
    mid_eq h = eq_of_mul-eq-mul_right (D ^ j) (power_pos D j (mul-pos (den_pos v) (den_pos y))) (joined ^ j * b) (a * (2 * l) ^ j) (sym mid_side ∙ ap (λ (x : ℕ). x * l ^ j) h ∙ root_side)

    pub from_le_mid : root_power j a v y ≤ mid_power j b v y → a * (2 * l) ^ j ≤ joined ^ j * b
    unfolding D
    from_le_mid h = le_of_mul-le-mul_right (le_trans (le_of_eq (sym root_side)) (le_trans (mul-le-mul_right (l ^ j) h) (le_of_eq mid_side))) (power_pos D j (mul-pos (den_pos v) (den_pos y)))

-- ---- the order of two values, in units
module _ (l : ℕ) (L : 0 < l) where
  scale_lt : (m n d e W Y : ℕ) → m * l ≡ W * e → n * l ≡ Y * d → m * d < n * e → W < Y
  scale_lt m n d e W Y g h k =
      lt_of_mul-lt-mul_right (e * d)
      (lt_of_le_of_lt (le_of_eq (sym (mul_right_comm m d l ∙ ap (λ (x : ℕ). x * d) g ∙ mul_assoc W e d)))
      (lt_of_lt_of_le (mul-lt-mul_of_pos_right k L) (le_of_eq (mul_right_comm n e l ∙ ap (λ (x : ℕ). x * e) h ∙ mul_assoc Y d e ∙ ap (λ (x : ℕ). Y * x) (mul_comm d e)))))

  above_units : (v y : Float) (W Y : ℕ) → HasValue v false W l → HasValue y (sign y) Y l → T (lt v y) → (sign y ≡ false) × (W < Y)
  unfolding lt
  above_units nan y W Y h k t = absurd h
  above_units (inf s) y W Y h k t = absurd h
  above_units (fin true m e) y W Y h k t = absurd (true≢false h.0)
  above_units (fin false m e) nan W Y h k t = absurd k
  above_units (fin false m e) (inf s) W Y h k t = absurd k
  above_units (fin false m e) (fin true n d) W Y h k t = absurd t
  above_units (fin false m e) (fin false n d) W Y h k t = (refl, scale_lt (m * up e) (n * up d) (down d) (down e) W Y h.1 k.1 (ltb→lt (m * up e * down d) (n * up d * down e) t))

  below_units : (v y : Float) (W Y : ℕ) → HasValue v false W l → HasValue y (sign y) Y l → T (lt y v) → sign y ≡ false → Y < W
  unfolding lt
  below_units v nan W Y h k t s = absurd k
  below_units v (inf u) W Y h k t s = absurd k
  below_units nan (fin u n d) W Y h k t s = absurd h
  below_units (inf r) (fin u n d) W Y h k t s = absurd h
  below_units (fin true m e) (fin u n d) W Y h k t s = absurd (true≢false h.0)
  below_units (fin false m e) (fin true n d) W Y h k t s = absurd (true≢false s)
  below_units (fin false m e) (fin false n d) W Y h k t s = scale_lt (n * up d) (m * up e) (down e) (down d) Y W k.1 h.1 (ltb→lt (n * up d * down e) (m * up e * down d) t)

-- ---- the theorem
module _ (f : Format) (j a b q k : ℕ) (o : Ordering) (J : 0 < j) (A₀ : 0 < a) (B : 0 < b) (few : q < 2 ^ prec f) (lead : Lead (prec f) q k) where
  abbrev K : ℕ
  K = a * (2 * 2 ^ low f) ^ j

  abbrev X : ℕ
  X = 2 ^ k

  module _ (from : (q * X + q * X) ^ j * b ≤ K) (upto : K < (q * X + X + (q * X + X)) ^ j * b) (side : Cmp o K ((q * X + (q * X + X)) ^ j * b)) (v : Float) (held : T (fits f v)) (value : HasValue v false (nearest q o * X) (2 ^ low f)) where
    abbrev C : ℕ
    C = nearest q o * X

    L : 0 < 2 ^ low f
    L = pow_pos (low f)

    K-pos : 0 < K
    K-pos = mul-pos A₀ (power_pos (2 * 2 ^ low f) j (mul-pos (zero-lt-suc 1) L))

    half : Half j b K (q * X) X J B C
    half = pick q X K ((q * X + (q * X + X)) ^ j * b) o side

    outside : (y : Float) (w : Steps f y) → Outside (q * X) X (w.m * 2 ^ w.j)
    outside y w = elim (none_between (prec f) q k w.m w.j (two-le_pos (prec f) (two f)) w.small lead) [ inl h ↦ inl h | inr h ↦ inr (le_trans (le_of_eq (sym (suc-mul q X))) h) ]

    even : K ≡ (q * X + (q * X + X)) ^ j * b → EvenDigit f v
    even e =
        even_digit f v (nearest q o) k (cross v false C (2 ^ low f) value) (le_trans (nearest-le q o) few)
        (elim lead [ inl z ↦ inl z | inr g ↦ inr (le_trans g (nearest-ge q o)) ])
        (tie_even q K ((q * X + (q * X + X)) ^ j * b) o side e)

    above_all : (y : Float) → Of f y → T (lt v y) → root_power j a v y ≤ mid_power j b v y
    above_all y h t =
        let w = steps_of f y h in
        let Y = w.m * 2 ^ w.j in
        let g = above_units (2 ^ low f) L v y C Y value w.value t in
        le_mid j a b (2 ^ low f) v y C Y value w.value L
        (subst (λ (s : Bool). K ≤ cond s (C - Y) (C + Y) ^ j * b) (sym g.0) (root_above j b K (q * X) X J B from upto C Y half (outside y w) g.1))

    -- with the midpoint of v and 0, which is no value below v
    at_zero : C ^ j * b ≤ K
    at_zero = go (eq-zero-or-pos C)
      where
        go : (C ≡ 0) ⊎ (0 < C) → C ^ j * b ≤ K
        go (inl e) = le_trans (up_le j b K (q * X) X J B C (q * X + q * X) (le_trans (le_of_eq e) zero-le)) from
        go (inr g) = le_trans (up_le j b K (q * X) X J B C (C + 0) (plain C)) (root_below j b K (q * X) X J B from upto C 0 half (inl zero-le) g)
          where
            plain : (n : ℕ) → n ≤ n + 0
            plain n = omega arith

    below_all : (y : Float) → Of f y → T (lt y v) → mid_power j b v y ≤ root_power j a v y
    below_all y h t = mid_le j a b (2 ^ low f) v y C (w.m * 2 ^ w.j) value w.value L (go (sign y) (below_units (2 ^ low f) L v y C (w.m * 2 ^ w.j) value w.value t))
      where
        w : Steps f y
        w = steps_of f y h

        less : (c y : ℕ) → c - y ≤ c
        less c y = omega arith

        go : (s : Bool) → (s ≡ false → (w.m * 2 ^ w.j) < C) → cond s (C - (w.m * 2 ^ w.j)) (C + (w.m * 2 ^ w.j)) ^ j * b ≤ K
        go true g = le_trans (up_le j b K (q * X) X J B (C - (w.m * 2 ^ w.j)) C (less C (w.m * 2 ^ w.j))) at_zero
        go false g = root_below j b K (q * X) X J B from upto C (w.m * 2 ^ w.j) half (outside y w) (g refl)

    tie_all : (y : Float) → Of f y → mid_power j b v y ≡ root_power j a v y → ¬ (y ≡ v) → EvenDigit f v
    tie_all y h t d = go (sign y) refl (mid_eq j a b (2 ^ low f) v y C (w.m * 2 ^ w.j) value w.value L t)
      where
        w : Steps f y
        w = steps_of f y h

        differ : sign y ≡ false → (w.m * 2 ^ w.j) ≡ C → ⊥
        differ s e = d (same_value f y v false C h.0 held (subst (λ (z : ℕ). HasValue y false z (2 ^ low f)) e (subst (λ (z : Bool). HasValue y z (w.m * 2 ^ w.j) (2 ^ low f)) s w.value)) value)

        lower : (c y : ℕ) → 0 < c → 0 < y → c - y < c
        lower c y g h = omega arith

        none : (x : ℕ) → x ≤ 0 → x ^ j * b ≡ K → ⊥
        none x g e = lt_irrefl 0 (lt_of_lt_of_le K-pos (le_trans (le_of_eq (sym e)) (le_trans (up_le j b K (q * X) X J B x 0 g) (le_of_eq nought))))
          where
            nought : 0 ^ j * b ≡ 0
            nought = zero_power j J
              where
                zero_power : (i : ℕ) → 0 < i → 0 ^ i * b ≡ 0
                zero_power zero g = absurd (lt_irrefl 0 g)
                zero_power (suc i) g = ap (λ (z : ℕ). z * b) (pow-succ' 0 i ∙ zero-mul (0 ^ i)) ∙ zero-mul b

        at_minus : (C ≡ 0) ⊎ (0 < C) → ((w.m * 2 ^ w.j) ≡ 0) ⊎ (0 < (w.m * 2 ^ w.j)) → (C - (w.m * 2 ^ w.j)) ^ j * b ≡ K → EvenDigit f v
        at_minus (inl z) g e = absurd (none (C - (w.m * 2 ^ w.j)) (zero_sub C (w.m * 2 ^ w.j) z) e)
          where
            zero_sub : (c y : ℕ) → c ≡ 0 → c - y ≤ 0
            zero_sub c y h = omega arith
        at_minus (inr z) (inl g) e = even (root_tie j b K (q * X) X J B from upto C 0 half (inl zero-le) (ne C z) (ap (λ (x : ℕ). x ^ j * b) (plain C (w.m * 2 ^ w.j) g) ∙ e))
          where
            ne : (c : ℕ) → 0 < c → 0 ≡ c → ⊥
            ne c h e = omega arith

            plain : (c y : ℕ) → y ≡ 0 → c + 0 ≡ c - y
            plain c y h = omega arith
        at_minus (inr z) (inr g) e = absurd (lt_irrefl K (lt_of_le_of_lt (le_of_eq (sym e)) (lt_of_lt_of_le (up_lt j b K (q * X) X J B (C - (w.m * 2 ^ w.j)) C (lower C (w.m * 2 ^ w.j) z g)) at_zero)))

        go : (s : Bool) → sign y ≡ s → cond s (C - (w.m * 2 ^ w.j)) (C + (w.m * 2 ^ w.j)) ^ j * b ≡ K → EvenDigit f v
        go true s e = at_minus (eq-zero-or-pos C) (eq-zero-or-pos (w.m * 2 ^ w.j)) e
        go false s e = even (root_tie j b K (q * X) X J B from upto C (w.m * 2 ^ w.j) half (outside y w) (differ s) e)

    pub nearest_root : NearestRoot f j a b v
    nearest_root = record {
      held = (held, value_finite v false C (2 ^ low f) value);
      signed = sign_of v false C (2 ^ low f) value;
      below = below_all;
      above = above_all;
      tie = tie_all;
    }

-- ---- the square root
sq : (x : ℕ) → x ^ 2 ≡ x * x
sq x = pow-suc x 1 ∙ ap (λ (z : ℕ). z * x) (pow-suc x 0 ∙ ap (λ (z : ℕ). z * x) (pow-zero x) ∙ one-mul x)

scale : (o : Ordering) (x y b : ℕ) → 0 < b → Cmp o x y → Cmp o (x * b) (y * b)
scale Ordering.lt x y b B c = mul-lt-mul_of_pos_right c B
scale Ordering.eq x y b B c = ap (λ (z : ℕ). z * b) c
scale Ordering.gt x y b B c = mul-lt-mul_of_pos_right c B

double_sq : (x : ℕ) → (x + x) ^ 2 ≡ 4 * (x * x)
double_sq x = sq (x + x) ∙ ap (λ (z : ℕ). z * z) (two_x x) ∙ mul-mul-mul_comm 2 x 2 x
  where
    two_x : (x : ℕ) → x + x ≡ 2 * x
    two_x x = omega arith

mid_is : (q x : ℕ) → q * x + (q * x + x) ≡ (2 * q + 1) * x
mid_is q x = join (q * x) x ∙ sym (add-mul (2 * q) 1 x ∙ ap (λ (z : ℕ). z + 1 * x) (mul_assoc 2 q x))
  where
    join : (y x : ℕ) → y + (y + x) ≡ 2 * y + 1 * x
    join y x = omega arith

pub below_top : (f : Format) (s : Bool) (m : ℕ) (e : ℤ) → T (fits f (fin s (suc m) e)) → suc m * up e < 2 ^ suc (emax f) * down e
unfolding fits
below_top f s m e t = ltb→lt (suc m * up e) (2 ^ suc (emax f) * down e) (and_r (eqb (suc m % 2) 1 && ltb (suc m) (2 ^ prec f) && leb (down e) (2 ^ low f)) (ltb (suc m * up e) (2 ^ suc (emax f) * down e)) t)

num_below : (f : Format) (x : Float) → T (fits f x) → T (positive x) → (num x < 2 ^ suc (emax f) * den x) × (0 < num x) × T (finite x)
num_below f nan t p = absurd p
num_below f (inf s) t p = absurd p
num_below f (fin true m e) t p = absurd p
num_below f (fin false zero e) t p = absurd p
num_below f (fin false (suc m) e) t p = (below_top f false m e t, mul-pos (zero-lt-suc m) (up_pos e), tt)

plus_sign : (x : Float) → T (positive x) → sign x ≡ false
plus_sign nan p = refl
plus_sign (inf s) p = absurd p
plus_sign (fin true m e) p = absurd p
plus_sign (fin false m e) p = refl

module _ (f : Format) (x : Float) (held : T (fits f x)) (plus : T (positive x)) where
  abbrev l : ℕ
  l = 2 ^ low f

  about : (num x < 2 ^ suc (emax f) * den x) × (0 < num x) × T (finite x)
  about = num_below f x held plus

  units_of : Steps f x
  units_of = steps_of f x (held, about.2)

  abbrev n : ℕ
  n = units_of.m * 2 ^ units_of.j

  x_value : HasValue x false n l
  x_value = subst (λ (s : Bool). HasValue x s n l) (plus_sign x plus) units_of.value

  x_cross : num x * l ≡ n * den x
  x_cross = cross x false n l x_value

  n_pos : 0 < n
  n_pos = lt_of_mul-lt-mul_right (den x) (lt_of_le_of_lt (le_of_eq (zero-mul (den x))) (lt_of_lt_of_le (mul-pos about.1 (pow_pos (low f))) (le_of_eq x_cross)))

  n_lt : n < 2 ^ suc (emax f) * l
  n_lt = lt_of_mul-lt-mul_right (den x) (lt_of_le_of_lt (le_of_eq (sym x_cross)) (lt_of_lt_of_le (mul-lt-mul_of_pos_right about.0 (pow_pos (low f))) (le_of_eq (mul_right_comm (2 ^ suc (emax f)) (den x) l))))

  abbrev N : ℕ
  N = n * l

  abbrev w : ℕ
  w = isqrt N

  abbrev k' : ℕ
  k' = size w - prec f

  abbrev x' : ℕ
  x' = 2 ^ k'

  abbrev q' : ℕ
  q' = w / x'

  abbrev o' : Ordering
  o' = compare (4 * N) ((2 * q' + 1) * x' * ((2 * q' + 1) * x'))

  lo : q' * x' * (q' * x') ≤ N
  lo = le_trans (mul-le-mul (div-mul-le_self w x') (div-mul-le_self w x')) (isqrt_is N).0

  over : suc w ≤ q' * x' + x'
  over = le_trans ((div-lt_iff_lt-mul (pow_pos k')).0 (lt-suc_self q')) (le_of_eq (suc-mul q' x'))

  hi : N < (q' * x' + x') * (q' * x' + x')
  hi = lt_of_lt_of_le (isqrt_is N).1 (mul-le-mul over over)

  power : num x * (2 * l) ^ 2 ≡ 4 * N * den x
  power = ap (λ (z : ℕ). num x * z) (sq (2 * l)) ∙ turn (num x) l ∙ ap (λ (z : ℕ). 4 * (z * l)) x_cross ∙ turn' n (den x) l
    where
      turn : (a l : ℕ) → a * (2 * l * (2 * l)) ≡ 4 * (a * l * l)
      turn a l = ap (λ (z : ℕ). a * z) (mul-mul-mul_comm 2 l 2 l) ∙ mul_left_comm a 4 (l * l) ∙ ap (λ (z : ℕ). 4 * z) (sym (mul_assoc a l l))

      turn' : (n d l : ℕ) → 4 * (n * d * l) ≡ 4 * (n * l) * d
      turn' n d l = ap (λ (z : ℕ). 4 * z) (mul_right_comm n d l) ∙ sym (mul_assoc 4 (n * l) d)

  from' : (q' * x' + q' * x') ^ 2 * den x ≤ num x * (2 * l) ^ 2
  from' = le_trans (mul-le-mul_right (den x) (le_trans (le_of_eq (double_sq (q' * x'))) (mul-le-mul_left 4 lo))) (le_of_eq (sym power))

  upto' : num x * (2 * l) ^ 2 < (q' * x' + x' + (q' * x' + x')) ^ 2 * den x
  upto' = lt_of_le_of_lt (le_of_eq power) (mul-lt-mul_of_pos_right (lt_of_lt_of_le (four N ((q' * x' + x') * (q' * x' + x')) hi) (le_of_eq (sym (double_sq (q' * x' + x'))))) (den_pos x))
    where
      four : (a b : ℕ) → a < b → 4 * a < 4 * b
      four a b h = omega arith

  side' : Cmp o' (num x * (2 * l) ^ 2) ((q' * x' + (q' * x' + x')) ^ 2 * den x)
  side' =
      let h = (2 * q' + 1) * x' in
      subst (λ (z : ℕ). Cmp o' z ((q' * x' + (q' * x' + x')) ^ 2 * den x)) (sym power)
      (subst (λ (z : ℕ). Cmp o' (4 * N * den x) (z * den x)) (sym (sq (q' * x' + (q' * x' + x')) ∙ ap (λ (z : ℕ). z * z) (mid_is q' x'))) (scale o' (4 * N) (h * h) (den x) (den_pos x) (cmp (4 * N) (h * h))))

  lead' : Lead (prec f) q' k'
  lead' = elim (eq-zero-or-pos k') [
    | inl z ↦ inl z
    | inr g ↦
        inr
        ((le-div_iff_mul-le (pow_pos k')).1 (le_trans (le_of_eq (sym (pow-add 2 (prec f - 1) k'))) (size_reaches w (prec f - 1 + k') (all_in_use (size w) (prec f) (two-le_pos (prec f) (two f)) g))))
  ]

  unit_le : x' ≤ suc w
  unit_le = elim lead' [
    | inl z ↦ le_trans (le_of_eq (ap (λ (i : ℕ). 2 ^ i) z)) (one_le w)
    | inr g ↦ le_trans (le_of_eq (sym (one-mul x'))) (le_trans (mul-le-mul_right x' (le_trans (pow_pos (prec f - 1)) g)) (le_trans (div-mul-le_self w x') (up_one w)))
  ]
    where
      one_le : (w : ℕ) → 1 ≤ suc w
      one_le w = omega arith

      up_one : (w : ℕ) → w ≤ suc w
      up_one w = omega arith

  w_lt : w < 2 ^ emax f * l
  w_lt =
      sq_lt w (2 ^ emax f * l)
      (lt_of_le_of_lt (isqrt_is N).0
      (lt_of_lt_of_le (mul-lt-mul_of_pos_right n_lt (pow_pos (low f)))
      (le_trans (le_of_eq (mul_assoc (2 ^ suc (emax f)) l l))
      (le_trans (mul-le-mul_right (l * l) (le_trans (pow_mono (twice f)) (le_of_eq (pow-add 2 (emax f) (emax f))))) (le_of_eq (mul-mul-mul_comm (2 ^ emax f) (2 ^ emax f) l l))))))
    where
      twice : (f : Format) → suc (emax f) ≤ emax f + emax f
      twice binary32 = lit≤ tt
      twice binary64 = lit≤ tt

  fine : nearest q' o' * x' < overflow f
  fine =
      lt_of_le_of_lt (mul-le-mul_right x' (nearest-le q' o'))
      (lt_of_le_of_lt (le_of_eq (suc-mul q' x'))
      (lt_of_lt_of_le (small (q' * x') x' w (2 ^ emax f * l) (div-mul-le_self w x') unit_le w_lt)
      (le_of_eq (sym (pow-add 2 (low f) (suc (emax f)) ∙ mul_comm l (2 ^ suc (emax f)) ∙ ap (λ (z : ℕ). z * l) (pow-succ' 2 (emax f)) ∙ mul_assoc 2 (2 ^ emax f) l)))))
    where
      small : (y x w t : ℕ) → y ≤ w → x ≤ suc w → w < t → y + x < 2 * t
      small y x w t a b c = omega arith

  is : rooted f x ≡ units f false (nearest q' o') k'
  is = rooted_at f x n n_pos x_value ∙ root_of_shaped f N

  kept : nearest q' o' ≤ 2 ^ prec f
  kept = le_trans (nearest-le q' o') (kept-lt (prec f) w)

  root_held : T (fits f (rooted f x))
  root_held =
      subst (λ (z : Float). T (fits f z)) (sym (is ∙ units_odd f false (nearest q' o') k' fine)) (odd-fits f (suc (prec f)) false (nearest q' o') k' (lt_of_le_of_lt kept (pow-lt (lt-suc_self (prec f)))) kept fine)

  root_value : HasValue (rooted f x) false (nearest q' o' * x') l
  root_value = subst (λ (z : Float). HasValue z false (nearest q' o' * x') l) (sym is) (units_val f false (nearest q' o') k' fine)

  pub root_nearest : NearestRoot f 2 (num x) (den x) (rooted f x)
  root_nearest = nearest_root f 2 (num x) (den x) q' k' o' (zero-lt-suc 1) about.1 (den_pos x) (kept-lt (prec f) w) lead' from' upto' side' (rooted f x) root_held root_value

pub root_to_nearest : RootToNearest
unfolding RootToNearest
root_to_nearest f x held plus = root_nearest f x held plus
