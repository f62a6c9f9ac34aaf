-- `round` gives the nearest value, a tie to the even one: `RoundTiesToEven`.
-- In units of the smallest value the exact number lies from q * 2 ^ k up to (q + 1) * 2 ^ k, no value of the format lies between these two, and `round` picks the nearer. Assumes nothing.
use mathlib.Core.Path.{◌≡◌, refl, sym, ap, ◌∙◌, subst}
use mathlib.Core.Logic.{◌⊎◌, inl, inr}
use Prim.Native.Nat.{ℕ, zero, suc, ◌+◌, ◌-◌, ◌*◌, ◌/◌, ◌%◌, ◌^◌, ◌≤◌, ◌<◌, zero-le, compare, Ordering}
use native.Mathlib.Nat.{le_refl, le_trans, le_of_eq, le_of_lt, lt_irrefl, lt_of_lt_of_le, lt_of_le_of_lt, lt_of_not-le, not-le_of_lt, eq-or-lt_of_le, eq-zero-or-pos, zero-mul, mul-one, mul_comm, mul_assoc, mul_left_comm, mul_right_comm, suc-mul, mul-sub, add-mul, mul-le-mul_right, mul-le-mul, mul-lt-mul_of_pos_right, mul-lt-mul_of_pos_left, zero-lt-suc, lt_of_mul-lt-mul_right, le_of_mul-le-mul_right, eq_of_mul-eq-mul_right, mul-pos, le-div_iff_mul-le, div-lt_iff_lt-mul, div-div-eq-div-mul, div-add-mod', mod-lt, pow-succ'}
use native.Mathlib.Omega.{arith}
use mathlib.Core.Bool.{Bool, true, false, not, ◌&&◌, beq, cond}
use lib.Dec.{T, leb, ltb, eqb, leb→le, nleb→lt, ltb→lt, nltb→le, lit≤}
use lib.Pow.{pow-add, pow_pos, pow_mono, pow-lt, shl_lt, suc_ones}
use lib.IntN.{ℤ, pos, negsuc}
use lib.Ieee.{Float, nan, inf, fin, Format, binary32, binary64, prec, emax, low, up, down, size, nearest, odd, units, round, fits, of_bits}
use lib.Ieee.Digits.{size-lt, size-le, size_reaches, back}
use lib.Ieee.Bits.{of_bits-to_bits}
use lib.Ieee.Fits.{two, two-le_pos, down_pos, and_l, and_r, nearest-le, kept-lt, round_is, round-fits}
use lib.Ieee.Exact.{HasValue, units_val}
use lib.Ieee.Nearest.{closest, closest_mono, nearest-ge}
use lib.Ieee.Scale.{finite, overflow}
use lib.Ieee.Positive.{num, den, den_pos}
use Rattle.ieee.specs.Nearest.{sign, Of, apart, gap, distance, AsNear, Tied, EvenDigit, Overflows, TiesToEven, RoundTiesToEven, NarrowTiesToEven}
use Rattle.ieee.specs.Narrow.{narrowed}
use Rattle.ieee.proofs.Codec.{Lead, Cmp, cmp, to_bits_by, units_inf}

-- ---- a value of the format is m * 2 ^ j smallest values, with m of at most prec digits
pub record Steps (f : Format) (y : Float) : Type 0 where
  pub m : ℕ
  pub j : ℕ
  pub value : HasValue y (sign y) (m * 2 ^ j) (2 ^ low f)
  pub small : m < 2 ^ prec f

pow_le_back : (a b : ℕ) → 2 ^ a ≤ 2 ^ b → a ≤ b
pow_le_back a b h = ≤-of (lt_of_not-le (λ (g : suc b ≤ a). not-le_of_lt (pow-lt g) h))
  where
    ≤-of : a < suc b → a ≤ b
    ≤-of g = omega arith

fits_small : (f : Format) (s : Bool) (m : ℕ) (e : ℤ) → T (fits f (fin s (suc m) e)) → (suc m < 2 ^ prec f) × (down e ≤ 2 ^ low f)
unfolding fits
fits_small f s m e t =
    let A : Bool = eqb (suc m % 2) 1 in
    let B : Bool = ltb (suc m) (2 ^ prec f) in
    let C : Bool = leb (down e) (2 ^ low f) in
    let D : Bool = ltb (suc m * up e) (2 ^ suc (emax f) * down e) in
    (ltb→lt (suc m) (2 ^ prec f) (and_r A B (and_l (A && B) C (and_l (A && B && C) D t))), leb→le (down e) (2 ^ low f) (and_r (A && B) C (and_l (A && B && C) D t)))

pub steps_of : (f : Format) (y : Float) → Of f y → Steps f y
steps_of f nan h = absurd h.1
steps_of f (inf s) h = absurd h.1
steps_of f (fin s zero e) h = record {
  m = 0;
  j = 0;
  value = (refl, ap (λ (x : ℕ). x * 2 ^ low f) (zero-mul (up e)) ∙ zero-mul (2 ^ low f) ∙ sym (ap (λ (x : ℕ). x * down e) (zero-mul 1) ∙ zero-mul (down e)));
  small = pow_pos (prec f);
}
steps_of f (fin s (suc m) (pos k)) h = record {
  m = suc m;
  j = k + low f;
  value = (refl, mul_assoc (suc m) (2 ^ k) (2 ^ low f) ∙ ap (λ (x : ℕ). suc m * x) (sym (pow-add 2 k (low f))) ∙ sym (mul-one (suc m * 2 ^ (k + low f))));
  small = (fits_small f s m (pos k) h.0).0;
}
steps_of f (fin s (suc m) (negsuc k)) h =
    let fs = fits_small f s m (negsuc k) h.0 in
    let l = low f in
    record {
      m = suc m;
      j = l - suc k;
      value = (
        refl,
        ap (λ (x : ℕ). x * 2 ^ l) (mul-one (suc m))
            ∙ ap (λ (x : ℕ). suc m * x) (ap (λ (x : ℕ). 2 ^ x) (sym (back l (suc k) (pow_le_back (suc k) l fs.1))) ∙ pow-add 2 (l - suc k) (suc k))
            ∙ sym (mul_assoc (suc m) (2 ^ (l - suc k)) (2 ^ suc k)),
      );
      small = fs.0;
    }

-- ---- no value lies between q * 2 ^ k and (q + 1) * 2 ^ k, where q has all its digits or k is 0
room : (p j k : ℕ) → 0 < p → j < k → p + j ≤ p - 1 + k
room p j k P h = omega arith

coarse : (p q k m j : ℕ) → 0 < p → m < 2 ^ p → Lead p q k → q * 2 ^ k < m * 2 ^ j → k ≤ j
coarse p q k m j P M (inl z) h = le_trans (le_of_eq z) zero-le
coarse p q k m j P M (inr g) h =
    at_most k j
    (λ (g' : j < k). not-le_of_lt h
    (le_trans (le_of_lt (shl_lt p j M)) (le_trans (pow_mono (room p j k P g')) (le_trans (le_of_eq (pow-add 2 (p - 1) k)) (mul-le-mul_right (2 ^ k) g)))))
  where
    at_most : (k j : ℕ) → (j < k → ⊥) → k ≤ j
    at_most k j n = go (leb k j) (leb→le k j) (nleb→lt k j)
      where
        go : (b : Bool) → (T b → k ≤ j) → (T (not b) → j < k) → k ≤ j
        go true x y = x tt
        go false x y = absurd (n (y tt))

pub none_between : (p q k m j : ℕ) → 0 < p → m < 2 ^ p → Lead p q k → (m * 2 ^ j ≤ q * 2 ^ k) ⊎ (suc q * 2 ^ k ≤ m * 2 ^ j)
none_between p q k m j P M L = go (leb (m * 2 ^ j) (q * 2 ^ k)) (leb→le (m * 2 ^ j) (q * 2 ^ k)) (nleb→lt (m * 2 ^ j) (q * 2 ^ k))
  where
    go : (b : Bool) → (T b → m * 2 ^ j ≤ q * 2 ^ k) → (T (not b) → q * 2 ^ k < m * 2 ^ j) → (m * 2 ^ j ≤ q * 2 ^ k) ⊎ (suc q * 2 ^ k ≤ m * 2 ^ j)
    go true x y = inl (x tt)
    go false x y =
        let e : m * 2 ^ j ≡ m * 2 ^ (j - k) * 2 ^ k = ap (λ (z : ℕ). m * z) (ap (λ (z : ℕ). 2 ^ z) (sym (back j k (coarse p q k m j P M L (y tt)))) ∙ pow-add 2 (j - k) k) ∙ sym (mul_assoc m (2 ^ (j - k)) (2 ^ k)) in
        inr (le_trans (mul-le-mul_right (2 ^ k) (lt_of_mul-lt-mul_right (2 ^ k) (lt_of_lt_of_le (y tt) (le_of_eq e)))) (le_of_eq (sym e)))

-- ---- what `nearest` picks: q or the next one up, as K is below M or above it, and at a tie the even one
pub pick : (q u K M : ℕ) (o : Ordering) → Cmp o K M → ((nearest q o * u ≡ q * u) × (K ≤ M)) ⊎ ((nearest q o * u ≡ q * u + u) × (M ≤ K))
pick q u K M Ordering.lt c = inl (refl, le_of_lt c)
pick q u K M Ordering.eq c = go (q % 2) (below q)
  where
    below : (q : ℕ) → q % 2 < 2
    below q = omega arith

    plus_zero : (q : ℕ) → q + 0 ≡ q
    plus_zero q = omega arith

    plus_one : (q : ℕ) → q + 1 ≡ suc q
    plus_one q = omega arith

    big : (d : ℕ) → suc (suc d) < 2 → ⊥
    big d h = omega arith

    go : (d : ℕ) → d < 2 → (((q + d) * u ≡ q * u) × (K ≤ M)) ⊎ (((q + d) * u ≡ q * u + u) × (M ≤ K))
    go zero l = inl (ap (λ (x : ℕ). x * u) (plus_zero q), le_of_eq c)
    go (suc zero) l = inr (ap (λ (x : ℕ). x * u) (plus_one q) ∙ suc-mul q u, le_of_eq (sym c))
    go (suc (suc d)) l = absurd (big d l)
pick q u K M Ordering.gt c = inr (suc-mul q u, le_of_lt c)

pub tie_even : (q K M : ℕ) (o : Ordering) → Cmp o K M → K ≡ M → nearest q o % 2 ≡ 0
tie_even q K M Ordering.lt c e = absurd (lt_irrefl K (lt_of_lt_of_le c (le_of_eq (sym e))))
tie_even q K M Ordering.eq c e = even q
  where
    even : (q : ℕ) → (q + q % 2) % 2 ≡ 0
    even q = omega arith
tie_even q K M Ordering.gt c e = absurd (lt_irrefl K (lt_of_le_of_lt (le_of_eq e) c))

-- ---- of A and A + u the nearer to A + r; z is any number that is not between the two
abbrev pub Side : ℕ → ℕ → ℕ → ℕ → Type 0
Side A u r C = ((C ≡ A) × (r * 2 ≤ u)) ⊎ ((C ≡ A + u) × (u ≤ r * 2))

abbrev pub Outside : ℕ → ℕ → ℕ → Type 0
Outside A u z = (z ≤ A) ⊎ (A + u ≤ z)

pub nearer : (A u r C z : ℕ) → r < u → Side A u r C → Outside A u z → apart (A + r) C ≤ apart (A + r) z
nearer A u r C z R (inl (e, h)) (inl o) = omega arith
nearer A u r C z R (inl (e, h)) (inr o) = omega arith
nearer A u r C z R (inr (e, h)) (inl o) = omega arith
nearer A u r C z R (inr (e, h)) (inr o) = omega arith

pub tied : (A u r C z : ℕ) → r < u → Side A u r C → Outside A u z → apart (A + r) C ≡ apart (A + r) z → (r * 2 ≡ u) ⊎ (z ≡ C)
tied A u r C z R (inl (e, h)) (inl o) t = inr (omega arith)
tied A u r C z R (inl (e, h)) (inr o) t = inl (omega arith)
tied A u r C z R (inr (e, h)) (inl o) t = inl (omega arith)
tied A u r C z R (inr (e, h)) (inr o) t = inr (omega arith)

-- ---- distances, with a factor taken out
pub sub_mul : (m n k : ℕ) → (m - n) * k ≡ m * k - n * k
sub_mul m n k = mul_comm (m - n) k ∙ mul-sub k m n ∙ ap (λ (x : ℕ). x - k * n) (mul_comm k m) ∙ ap (λ (x : ℕ). m * k - x) (mul_comm k n)

apart_mul : (a b c : ℕ) → apart (a * c) (b * c) ≡ apart a b * c
apart_mul a b c = ap (λ (x : ℕ). x + (b * c - a * c)) (sym (sub_mul a b c)) ∙ ap (λ (x : ℕ). (a - b) * c + x) (sym (sub_mul b a c)) ∙ sym (add-mul (a - b) (b - a) c)

gap_mul : (s : Bool) (a : ℕ) (t : Bool) (b c : ℕ) → gap s (a * c) t (b * c) ≡ gap s a t b * c
gap_mul s a t b c = go (beq s t)
  where
    go : (x : Bool) → cond x (apart (a * c) (b * c)) (a * c + b * c) ≡ cond x (apart a b) (a + b) * c
    go true = apart_mul a b c
    go false = sym (add-mul a b c)

pub cross : (x : Float) (s : Bool) (a c : ℕ) → HasValue x s a c → num x * c ≡ a * den x
cross nan s a c h = absurd h
cross (inf t) s a c h = absurd h
cross (fin t m e) s a c h = h.1

pub sign_of : (x : Float) (s : Bool) (a c : ℕ) → HasValue x s a c → sign x ≡ s
sign_of nan s a c h = absurd h
sign_of (inf t) s a c h = absurd h
sign_of (fin t m e) s a c h = h.0

-- the distance to a value of Y / l
distance_at : (s : Bool) (a b : ℕ) (y : Float) (t : Bool) (Y l : ℕ) → HasValue y t Y l → distance s a b y * l ≡ gap s (a * l) t (Y * b) * den y
distance_at s a b y t Y l h =
    let d = den y in
    let n : num y * b * l ≡ Y * b * d = mul_right_comm (num y) b l ∙ ap (λ (x : ℕ). x * b) (cross y t Y l h) ∙ mul_right_comm Y d b in
    sym (gap_mul s (a * d) (sign y) (num y * b) l)
    ∙ ap (λ (x : ℕ). gap s x (sign y) (num y * b * l)) (mul_right_comm a d l)
    ∙ ap (λ (x : ℕ). gap s (a * l * d) (sign y) x) n
    ∙ ap (λ (x : Bool). gap s (a * l * d) x (Y * b * d)) (sign_of y t Y l h)
    ∙ gap_mul s (a * l) t (Y * b) d

module _ (s : Bool) (a b l : ℕ) (L : 0 < l) (v y : Float) (t t' : Bool) (W Y : ℕ) (hv : HasValue v t W l) (hy : HasValue y t' Y l) where
  left : distance s a b v * den y * l ≡ gap s (a * l) t (W * b) * (den v * den y)
  left = mul_right_comm (distance s a b v) (den y) l ∙ ap (λ (x : ℕ). x * den y) (distance_at s a b v t W l hv) ∙ mul_assoc (gap s (a * l) t (W * b)) (den v) (den y)

  right : distance s a b y * den v * l ≡ gap s (a * l) t' (Y * b) * (den v * den y)
  right =
      mul_right_comm (distance s a b y) (den v) l
      ∙ ap (λ (x : ℕ). x * den v) (distance_at s a b y t' Y l hy)
      ∙ mul_assoc (gap s (a * l) t' (Y * b)) (den y) (den v)
      ∙ ap (λ (x : ℕ). gap s (a * l) t' (Y * b) * x) (mul_comm (den y) (den v))

  pub as_near : gap s (a * l) t (W * b) ≤ gap s (a * l) t' (Y * b) → AsNear s a b v y
  as_near h = le_of_mul-le-mul_right (le_trans (le_of_eq left) (le_trans (mul-le-mul_right (den v * den y) h) (le_of_eq (sym right)))) L

  pub from_tie : Tied s a b v y → gap s (a * l) t (W * b) ≡ gap s (a * l) t' (Y * b)
  from_tie h = eq_of_mul-eq-mul_right (den v * den y) (mul-pos (den_pos v) (den_pos y)) (gap s (a * l) t (W * b)) (gap s (a * l) t' (Y * b)) (sym left ∙ ap (λ (x : ℕ). x * l) h ∙ right)

pub gap_own : (s : Bool) (a b : ℕ) → gap s a s b ≡ apart a b
gap_own true a b = refl
gap_own false a b = refl

-- ---- the significand
pub even_digit : (f : Format) (v : Float) (c k : ℕ) → num v * 2 ^ low f ≡ c * 2 ^ k * den v → c ≤ 2 ^ prec f → Lead (prec f) c k → c % 2 ≡ 0 → EvenDigit f v
even_digit f v c k h u l e = go (eq-or-lt_of_le u)
  where
    two_suc : (p : ℕ) → 2 ≤ p → p ≡ suc (p - 1)
    two_suc p g = omega arith

    two_suc' : (p : ℕ) → 2 ≤ p → p - 1 ≡ suc (p - 2)
    two_suc' p g = omega arith

    down_one : (p : ℕ) → 2 ≤ p → p - 1 < p
    down_one p g = omega arith

    twice : (x : ℕ) → 2 * x % 2 ≡ 0
    twice x = omega arith

    go : (c ≡ 2 ^ prec f) ⊎ (c < 2 ^ prec f) → EvenDigit f v
    go (inr g) = record { c = c; k = k; value = h; digits = g; leading = l; even = e }
    go (inl g) =
        let p = prec f in
        let H = 2 ^ (p - 1) in
        let x : c * 2 ^ k ≡ H * 2 ^ suc k =
        ap (λ (z : ℕ). z * 2 ^ k) (g ∙ ap (λ (z : ℕ). 2 ^ z) (two_suc p (two f)) ∙ pow-succ' 2 (p - 1) ∙ mul_comm 2 H) ∙ mul_assoc H 2 (2 ^ k) ∙ ap (λ (z : ℕ). H * z) (sym (pow-succ' 2 k)) in
        record {
          c = H;
          k = suc k;
          value = h ∙ ap (λ (z : ℕ). z * den v) x;
          digits = pow-lt (down_one p (two f));
          leading = inr (le_refl H);
          even = ap (λ (z : ℕ). z % 2) (ap (λ (z : ℕ). 2 ^ z) (two_suc' p (two f)) ∙ pow-succ' 2 (p - 2)) ∙ twice (2 ^ (p - 2));
        }

-- two values of the format with the same sign and size are the same
pub same_value : (f : Format) (x y : Float) (s : Bool) (n : ℕ) → T (fits f x) → T (fits f y) → HasValue x s n (2 ^ low f) → HasValue y s n (2 ^ low f) → x ≡ y
same_value f x y s n a b h k = sym (of_bits-to_bits f x a) ∙ ap (λ (z : ℕ). of_bits f z) (to_bits_by f x s n h ∙ sym (to_bits_by f y s n k)) ∙ of_bits-to_bits f y b

pub all_in_use : (z p : ℕ) → 0 < p → 0 < z - p → p - 1 + (z - p) < z
all_in_use z p P h = omega arith

pub units_under : (f : Format) (s : Bool) (q k : ℕ) → T (finite (units f s q k)) → q * 2 ^ k < overflow f
unfolding units
units_under f s q k = go (ltb (q * 2 ^ k) (overflow f)) (ltb→lt (q * 2 ^ k) (overflow f))
  where
    go : (b : Bool) → (T b → q * 2 ^ k < overflow f) → T (finite (cond b (odd (suc (prec f)) s q k (low f)) (inf s))) → q * 2 ^ k < overflow f
    go true h t = h tt
    go false h t = absurd t

pub value_finite : (x : Float) (s : Bool) (a c : ℕ) → HasValue x s a c → T (finite x)
value_finite nan s a c h = absurd h
value_finite (inf t) s a c h = absurd h
value_finite (fin t m e) s a c h = tt

-- ---- `round`
module _ (f : Format) (s : Bool) (a b : ℕ) (B : 0 < b) where
  abbrev pub n : ℕ
  n = a * 2 ^ low f

  abbrev pub k : ℕ
  k = size (n / b) - prec f

  abbrev pub u : ℕ
  u = b * 2 ^ k

  abbrev pub q : ℕ
  q = n / u

  abbrev pub r : ℕ
  r = n % u

  abbrev pub c : ℕ
  c = nearest q (compare (r * 2) u)

  P : 0 < prec f
  P = two-le_pos (prec f) (two f)

  pub U : 0 < u
  U = mul-pos B (pow_pos k)

  pub q_lt : q < 2 ^ prec f
  q_lt = subst (λ (x : ℕ). x < 2 ^ prec f) (div-div-eq-div-mul n b (2 ^ k)) (kept-lt (prec f) (n / b))

  c_le : c ≤ 2 ^ prec f
  c_le = le_trans (nearest-le q (compare (r * 2) u)) q_lt

  pub q_lead : Lead (prec f) q k
  q_lead = elim (eq-zero-or-pos k) [
    | inl z ↦ inl z
    | inr g ↦
        inr
        (subst (λ (x : ℕ). 2 ^ (prec f - 1) ≤ x) (div-div-eq-div-mul n b (2 ^ k))
        ((le-div_iff_mul-le (pow_pos k)).1 (le_trans (le_of_eq (sym (pow-add 2 (prec f - 1) k))) (size_reaches (n / b) (prec f - 1 + k) (all_in_use (size (n / b)) (prec f) P g)))))
  ]

  c_lead : Lead (prec f) c k
  c_lead = elim q_lead [ inl z ↦ inl z | inr g ↦ inr (le_trans g (nearest-ge q (compare (r * 2) u))) ]

  pub on_side : Side (q * u) u r (c * u)
  on_side = pick q u (r * 2) u (compare (r * 2) u) (cmp (r * 2) u)

  pub turn : (x : ℕ) → x * 2 ^ k * b ≡ x * u
  turn x = mul_assoc x (2 ^ k) b ∙ ap (λ (z : ℕ). x * z) (mul_comm (2 ^ k) b)

  pub outside : (m j : ℕ) → m < 2 ^ prec f → Outside (q * u) u (m * 2 ^ j * b)
  outside m j M = elim (none_between (prec f) q k m j P M q_lead) [
    | inl h ↦ inl (le_trans (mul-le-mul_right b h) (le_of_eq (turn q)))
    | inr h ↦ inr (le_trans (le_of_eq (sym (turn (suc q) ∙ suc-mul q u))) (mul-le-mul_right b h))
  ]

  nearest_n : (z : ℕ) → Outside (q * u) u z → apart n (c * u) ≤ apart n z
  nearest_n z h = subst (λ (x : ℕ). apart x (c * u) ≤ apart x z) (div-add-mod' n u) (nearer (q * u) u r (c * u) z (mod-lt n U) on_side h)

  tied_n : (z : ℕ) → Outside (q * u) u z → apart n (c * u) ≡ apart n z → (c % 2 ≡ 0) ⊎ (z ≡ c * u)
  tied_n z h e = elim (tied (q * u) u r (c * u) z (mod-lt n U) on_side h (subst (λ (x : ℕ). apart x (c * u) ≡ apart x z) (sym (div-add-mod' n u)) e)) [
    | inl g ↦ inl (tie_even q (r * 2) u (compare (r * 2) u) (cmp (r * 2) u) g)
    | inr g ↦ inr g
  ]

  is : round f s a b ≡ units f s c k
  is = round_is f s a b

  pub val : T (finite (round f s a b)) → HasValue (round f s a b) s (c * 2 ^ k) (2 ^ low f)
  val t = subst (λ (x : Float). HasValue x s (c * 2 ^ k) (2 ^ low f)) (sym is) (units_val f s c k (units_under f s c k (subst (λ (x : Float). T (finite x)) is t)))

  -- with either sign
  either : (t : Bool) (z : ℕ) → Outside (q * u) u z → gap s n s (c * 2 ^ k * b) ≤ gap s n t z
  either t z h = le_trans (le_of_eq (gap_own s n (c * 2 ^ k * b) ∙ ap (λ (x : ℕ). apart n x) (turn c))) (go (beq s t))
    where
      all : (n z d : ℕ) → d ≤ apart n 0 → d ≤ n + z
      all n z d h = omega arith

      go : (x : Bool) → apart n (c * u) ≤ cond x (apart n z) (n + z)
      go true = nearest_n z h
      go false = all n z (apart n (c * u)) (nearest_n 0 (inl zero-le))

  pub is_nearest : T (finite (round f s a b)) → (y : Float) → Of f y → AsNear s a b (round f s a b) y
  is_nearest t y h =
      let w = steps_of f y h in
      as_near s a b (2 ^ low f) (pow_pos (low f)) (round f s a b) y s (sign y) (c * 2 ^ k) (w.m * 2 ^ w.j) (val t) w.value (either (sign y) (w.m * 2 ^ w.j * b) (outside w.m w.j w.small))

  even_c : T (finite (round f s a b)) → c % 2 ≡ 0 → EvenDigit f (round f s a b)
  even_c t e = even_digit f (round f s a b) c k (cross (round f s a b) s (c * 2 ^ k) (2 ^ low f) (val t)) c_le c_lead e

  pub is_even : T (finite (round f s a b)) → (y : Float) → Of f y → Tied s a b (round f s a b) y → ¬ (y ≡ round f s a b) → EvenDigit f (round f s a b)
  is_even t y h e d = go (beq s (sign y)) (same s (sign y)) (sym (gap_own s n (c * 2 ^ k * b) ∙ ap (λ (x : ℕ). apart n x) (turn c)) ∙ from_tie s a b (2 ^ low f) (pow_pos (low f)) (round f s a b) y s (sign y) (c * 2 ^ k) (w.m * 2 ^ w.j) (val t) w.value e)
    where
      w : Steps f y
      w = steps_of f y h

      same : (s t : Bool) → T (beq s t) → t ≡ s
      same true true x = refl
      same true false x = absurd x
      same false true x = absurd x
      same false false x = refl

      apart_nought : (n z d : ℕ) → d ≤ apart n 0 → d ≡ n + z → d ≡ apart n 0
      apart_nought n z d h e = omega arith

      zero_c : (x : ℕ) → 0 ≡ x * u → x % 2 ≡ 0
      zero_c zero g = refl
      zero_c (suc x) g = absurd (lt_irrefl 0 (subst (λ (z : ℕ). 0 < z) (sym g) (mul-pos (pow_pos' x) U)))
        where
          pow_pos' : (x : ℕ) → 0 < suc x
          pow_pos' x = omega arith

      go : (x : Bool) → (T x → sign y ≡ s) → apart n (c * u) ≡ cond x (apart n (w.m * 2 ^ w.j * b)) (n + w.m * 2 ^ w.j * b) → EvenDigit f (round f s a b)
      go true i g = elim (tied_n (w.m * 2 ^ w.j * b) (outside w.m w.j w.small) g) [
        | inl p ↦ even_c t p
        | inr p ↦
            absurd
            (d
            (same_value f y (round f s a b) s (c * 2 ^ k) h.0 (round-fits f s a b)
            (subst (λ (z : ℕ). HasValue y s z (2 ^ low f)) (eq_of_mul-eq-mul_right b B (w.m * 2 ^ w.j) (c * 2 ^ k) (p ∙ sym (turn c))) (subst (λ (z : Bool). HasValue y z (w.m * 2 ^ w.j) (2 ^ low f)) (i tt) w.value))
            (val t)))
      ]
      go false i g = elim (tied_n 0 (inl zero-le) (apart_nought n (w.m * 2 ^ w.j * b) (apart n (c * u)) (nearest_n 0 (inl zero-le)) g)) [ inl p ↦ even_c t p | inr p ↦ even_c t (zero_c c p) ]

  -- ---- overflow: from (2 ^ (prec + 1) - 1) * 2 ^ h units on, with 2 ^ (prec + h + 1) units being 2 ^ (emax + 1)
  abbrev h : ℕ
  h = emax f - prec f + low f

  most : ℕ
  most = (2 ^ suc (prec f) - 1) * (b * 2 ^ h)

  most_is : (2 ^ suc (prec f) - 1) * 2 ^ (emax f - prec f) * b * 2 ^ low f ≡ most
  unfolding most
  most_is = regroup (2 ^ suc (prec f) - 1) (2 ^ (emax f - prec f)) b (2 ^ low f) ∙ ap (λ (x : ℕ). (2 ^ suc (prec f) - 1) * (b * x)) (sym (pow-add 2 (emax f - prec f) (low f)))
    where
      regroup : (x y z w : ℕ) → x * y * z * w ≡ x * (z * (y * w))
      regroup x y z w = simp (mul_assoc, mul_left_comm)

  over : Overflows f a b → most ≤ n
  over g = le_trans (le_of_eq (sym most_is)) (mul-le-mul_right (2 ^ low f) g)

  under : a < (2 ^ suc (prec f) - 1) * 2 ^ (emax f - prec f) * b → n < most
  under g = lt_of_lt_of_le (mul-lt-mul_of_pos_right g (pow_pos (low f))) (le_of_eq most_is)

  limit : overflow f ≡ 2 ^ prec f * 2 ^ suc h
  limit = ap (λ (x : ℕ). 2 ^ x) (sum (emax f) (prec f) (low f) (inside f)) ∙ pow-add 2 (prec f) (suc h)
    where
      sum : (e p l : ℕ) → p ≤ e → l + suc e ≡ p + suc (e - p + l)
      sum e p l g = omega arith

      inside : (f : Format) → prec f ≤ emax f
      inside binary32 = lit≤ tt
      inside binary64 = lit≤ tt

  twice_u : k ≡ suc h → (2 ^ suc (prec f) - 1) * u ≡ most * 2
  unfolding most
  twice_u e = ap (λ (x : ℕ). (2 ^ suc (prec f) - 1) * (b * x)) (ap (λ (x : ℕ). 2 ^ x) e ∙ pow-succ' 2 h) ∙ regroup (2 ^ suc (prec f) - 1) b (2 ^ h)
    where
      regroup : (x y z : ℕ) → x * (y * (2 * z)) ≡ x * (y * z) * 2
      regroup x y z = simp (mul_assoc, mul_comm, mul_left_comm)

  digits_over : most ≤ n → suc h ≤ k
  unfolding most
  digits_over g = lower (size (n / b)) (prec f) h (lt_of_not-le (λ (z : size (n / b) ≤ prec f + h). not-le_of_lt (lt_of_lt_of_le (size-lt (n / b)) (pow_mono z)) large))
    where
      lower : (z p h : ℕ) → p + h < z → suc h ≤ z - p
      lower z p h g = omega arith

      most_of : (x y : ℕ) → 0 < x → y ≡ 2 * x → x ≤ y - 1
      most_of x y g e = omega arith

      large : 2 ^ (prec f + h) ≤ n / b
      large =
          (le-div_iff_mul-le B).1
          (le_trans (le_of_eq (ap (λ (x : ℕ). x * b) (pow-add 2 (prec f) h) ∙ mul_assoc (2 ^ prec f) (2 ^ h) b ∙ ap (λ (x : ℕ). 2 ^ prec f * x) (mul_comm (2 ^ h) b)))
          (le_trans (mul-le-mul_right (b * 2 ^ h) (most_of (2 ^ prec f) (2 ^ suc (prec f)) (pow_pos (prec f)) (pow-succ' 2 (prec f)))) g))

  digits_under : n < most → k ≤ suc h
  unfolding most
  digits_under g = upper (size (n / b)) (prec f) h (size-le (n / b) (suc (prec f) + h) small)
    where
      upper : (z p h : ℕ) → z ≤ suc p + h → z - p ≤ suc h
      upper z p h g = omega arith

      less : (x : ℕ) → x - 1 ≤ x
      less x = omega arith

      small : n / b < 2 ^ (suc (prec f) + h)
      small =
          (div-lt_iff_lt-mul B).1
          (lt_of_lt_of_le g
          (le_trans (mul-le-mul_right (b * 2 ^ h) (less (2 ^ suc (prec f))))
          (le_of_eq (sym (ap (λ (x : ℕ). x * b) (pow-add 2 (suc (prec f)) h) ∙ mul_assoc (2 ^ suc (prec f)) (2 ^ h) b ∙ ap (λ (x : ℕ). 2 ^ suc (prec f) * x) (mul_comm (2 ^ h) b))))))

  midpoint : (f : Format) → closest (2 ^ suc (prec f) - 1) 2 ≡ 2 ^ prec f
  midpoint binary32 = refl
  midpoint binary64 = refl

  c_over : most ≤ n → overflow f ≤ c * 2 ^ k
  c_over g = le_trans (le_of_eq limit) (go (eq-or-lt_of_le (digits_over g)))
    where
      pred : (p : ℕ) → 2 ≤ p → p ≡ suc (p - 1)
      pred p g = omega arith

      some : suc h < k → k ≡ 0 → ⊥
      some x y = omega arith

      lead : suc h < k → Lead (prec f) c k → 2 ^ prec f * 2 ^ suc h ≤ c * 2 ^ k
      lead x (inl z) = absurd (some x z)
      lead x (inr z) =
          le_trans
          (le_of_eq
          (ap (λ (y : ℕ). y * 2 ^ suc h) (ap (λ (y : ℕ). 2 ^ y) (pred (prec f) (two f)) ∙ pow-succ' 2 (prec f - 1) ∙ mul_comm 2 (2 ^ (prec f - 1)))
          ∙ mul_assoc (2 ^ (prec f - 1)) 2 (2 ^ suc h)
          ∙ ap (λ (y : ℕ). 2 ^ (prec f - 1) * y) (sym (pow-succ' 2 (suc h)))))
          (mul-le-mul z (pow_mono x))

      go : (suc h ≡ k) ⊎ (suc h < k) → 2 ^ prec f * 2 ^ suc h ≤ c * 2 ^ k
      go (inl e) =
          mul-le-mul
          (le_trans (le_of_eq (sym (midpoint f)))
          (closest_mono (2 ^ suc (prec f) - 1) 2 n u (zero-lt-suc 1) U (le_trans (le_of_eq (twice_u (sym e))) (mul-le-mul_right 2 g))))
          (le_of_eq (ap (λ (x : ℕ). 2 ^ x) e))
      go (inr l) = lead l c_lead

  c_under : n < most → c * 2 ^ k < overflow f
  c_under g = lt_of_lt_of_le (go (eq-or-lt_of_le (digits_under g))) (le_of_eq (sym limit))
    where
      clash : (X A u r n t : ℕ) → X ≡ A + u → u ≤ r * 2 → A + r ≡ n → t + u ≡ 2 * X → n * 2 < t → ⊥
      clash X A u r n t a b c d e = omega arith

      full : (y : ℕ) → (2 ^ suc (prec f) - 1) * y + y ≡ 2 * (2 ^ prec f * y)
      full y = sym (suc-mul (2 ^ suc (prec f) - 1) y) ∙ ap (λ (x : ℕ). x * y) (suc_ones (suc (prec f)) ∙ pow-succ' 2 (prec f)) ∙ mul_assoc 2 (2 ^ prec f) y

      strict : k ≡ suc h → (c ≡ 2 ^ prec f) ⊎ (c < 2 ^ prec f) → c < 2 ^ prec f
      strict e (inr z) = z
      strict e (inl z) = elim on_side [
        | inl (x, y) ↦ subst (λ (w : ℕ). w < 2 ^ prec f) (sym (eq_of_mul-eq-mul_right u U c q x)) q_lt
        | inr (x, y) ↦
            absurd
            (clash (2 ^ prec f * u) (q * u) u r n ((2 ^ suc (prec f) - 1) * u) (ap (λ (w : ℕ). w * u) (sym z) ∙ x) y (div-add-mod' n u) (full u)
            (lt_of_lt_of_le (mul-lt-mul_of_pos_right g (zero-lt-suc 1)) (le_of_eq (sym (twice_u e)))))
      ]

      go : (k ≡ suc h) ⊎ (k < suc h) → c * 2 ^ k < 2 ^ prec f * 2 ^ suc h
      go (inl e) = lt_of_lt_of_le (mul-lt-mul_of_pos_right (strict e (eq-or-lt_of_le c_le)) (pow_pos k)) (le_of_eq (ap (λ (x : ℕ). 2 ^ prec f * 2 ^ x) e))
      go (inr l) = lt_of_le_of_lt (mul-le-mul_right (2 ^ k) c_le) (mul-lt-mul_of_pos_left (pow-lt l) (pow_pos (prec f)))

  pub is_inf : Overflows f a b → round f s a b ≡ inf s
  is_inf g = is ∙ units_inf f s c k (c_over (over g))

  pub is_finite_lem : ¬ Overflows f a b → T (finite (round f s a b))
  is_finite_lem g =
      value_finite (round f s a b) s (c * 2 ^ k) (2 ^ low f)
      (subst (λ (x : Float). HasValue x s (c * 2 ^ k) (2 ^ low f)) (sym is) (units_val f s c k (c_under (under (lt_of_not-le g)))))

  is_signed : sign (round f s a b) ≡ s
  is_signed = go (ltb (c * 2 ^ k) (overflow f)) (ltb→lt (c * 2 ^ k) (overflow f)) (nltb→le (c * 2 ^ k) (overflow f))
    where
      go : (t : Bool) → (T t → c * 2 ^ k < overflow f) → (T (not t) → overflow f ≤ c * 2 ^ k) → sign (round f s a b) ≡ s
      go true x y = ap sign is ∙ sign_of (units f s c k) s (c * 2 ^ k) (2 ^ low f) (units_val f s c k (x tt))
      go false x y = ap sign (is ∙ units_inf f s c k (y tt))

  pub ties_to_even : TiesToEven f s a b (round f s a b)
  ties_to_even = record {
    held = round-fits f s a b;
    signed = is_signed;
    infinite = is_inf;
    else_finite = is_finite_lem;
    nearest = is_nearest;
    tie = is_even;
  }

pub round_ties_to_even : RoundTiesToEven
unfolding RoundTiesToEven
round_ties_to_even f s a b B = ties_to_even f s a b B

pub narrow_ties_to_even : NarrowTiesToEven
unfolding NarrowTiesToEven narrowed
narrow_ties_to_even nan t = absurd t
narrow_ties_to_even (inf s) t = absurd t
narrow_ties_to_even (fin s m e) t = ties_to_even binary32 s (m * up e) (down e) (down_pos e)
