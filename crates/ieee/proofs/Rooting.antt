-- The root of a value by its bit pattern, in either format. Assumes nothing.
use mathlib.Core.Path.{◌≡◌, refl, sym, ap, ◌∙◌, subst}
use mathlib.Core.Logic.{◌⊎◌, inl, inr}
use Prim.Native.Nat.{ℕ, zero, suc, ◌+◌, ◌-◌, ◌*◌, ◌/◌, ◌%◌, ◌^◌, ◌≤◌, ◌<◌}
use native.Mathlib.Nat.{le_trans, le_of_eq, le_of_suc-le-suc, le_of_lt, lt_irrefl, lt_of_lt_of_le, lt_of_le_of_lt, lt_of_not-le, eq-or-lt_of_le, zero-lt-suc, zero-add, zero-mul, mul-one, mul_assoc, suc-mul, mul-le-mul_right, mul-le-mul_left, mul-lt-mul_of_pos_right, mul-lt-mul_of_pos_left, mul-le-mul, mul-pos}
use native.Mathlib.Omega.{arith}
use mathlib.Core.Bool.{Bool, true, false, not, cond}
use lib.Dec.{T, leb, le→leb, lit<}
use lib.Pow.{pow-add, pow_pos, pow_mono, shl_lt}
use lib.Count.{count_leading_zeros, leading_top}
use lib.Ieee.{Float, nan, inf, fin, Format, binary32, binary64, prec, emax, low, hid, ones, top, up, down, units, of_bits, nan_bits}
use lib.Ieee.Bits.{is_true}
use Rattle.std.proofs.lemmas.Bool.{lt-leb}
use lib.Ieee.Fits.{two, two-le_pos, down_pos}
use lib.Ieee.Exact.{HasValue}
use lib.Ieee.Scale.{overflow}
use Rattle.ieee.specs.Root.{Near, root_of, rooted}
use Rattle.ieee.proofs.Codec.{twice_hid, encode, decode_zero, decode_suc, decode_inf, no_digits}
use Rattle.ieee.proofs.Root.{root_is, rooted_at, parts, near_small}

-- ---- from the nearest whole number to the pattern

-- an odd exponent doubles the significand
at_most : (w : ℕ) → 1 + w % 2 ≤ 2
at_most w = omega arith

doubled : (m w : ℕ) → m * (1 + w % 2) ≤ m * 2
doubled m w = mul-le-mul_left m (at_most w)

leads : (S r H : ℕ) → 0 < H → H * H ≤ S → S ≤ r * r + r → H ≤ r
leads S r H P a b = le_of_suc-le-suc (lt_of_not-le (λ (g : suc r ≤ H). clash (suc-mul r r) (mul-le-mul_right r g) (mul-lt-mul_of_pos_left g P)))
  where
    clash : suc r * r ≡ r * r + r → suc r * r ≤ H * r → H * r < H * H → ⊥
    clash e h k = omega arith

-- the largest exponent leaves the root below every infinity
fine_at : (f : Format) (w r : ℕ) → w ≤ 3 * emax f - 2 → r ≤ 2 ^ prec f → r * 2 ^ (w / 2) < overflow f
fine_at binary32 w r h k = lt_of_le_of_lt (mul-le-mul k (pow_mono (half w h))) (lit< tt)
  where
    half : (w : ℕ) → w ≤ 379 → w / 2 ≤ 189
    half w h = omega arith
fine_at binary64 w r h k = lt_of_le_of_lt (mul-le-mul k (pow_mono (half w h))) (lit< tt)
  where
    half : (w : ℕ) → w ≤ 3067 → w / 2 ≤ 1533
    half w h = omega arith

finite_at : (f : Format) (w r : ℕ) → w ≤ 3 * emax f - 2 → r ≤ 2 ^ prec f → w / 2 * hid f + r ≤ ones f * hid f
finite_at binary32 w r h k = omega arith
finite_at binary64 w r h k = omega arith

-- H and K are the code's two words for the weight of the leading digit
module _ (f : Format) (m w r H K : ℕ) (H-is : H ≡ hid f) (K-is : K ≡ hid f) (lo : hid f ≤ m) (hi : m < 2 ^ prec f) (few : w ≤ 3 * emax f - 2) (found : Near (m * (1 + w % 2) * H) r) where
  near : Near (m * (1 + w % 2) * hid f) r
  near = subst (λ (z : ℕ). Near (m * (1 + w % 2) * z) r) H-is found

  positive_prec : 0 < prec f
  positive_prec = two-le_pos (prec f) (two f)

  S-ge : hid f * hid f ≤ m * (1 + w % 2) * hid f
  S-ge = mul-le-mul_right (hid f) (le_trans lo (le_trans (le_of_eq (sym (mul-one m))) (mul-le-mul_left m (one_le (w % 2)))))
    where
      one_le : (b : ℕ) → 1 ≤ 1 + b
      one_le b = omega arith

  S-lt : m * (1 + w % 2) * hid f < 2 ^ prec f * 2 ^ prec f
  S-lt =
      lt_of_le_of_lt (mul-le-mul_right (hid f) (doubled m w))
      (lt_of_lt_of_le (mul-lt-mul_of_pos_right (mul-lt-mul_of_pos_right hi (zero-lt-suc 1)) (pow_pos (prec f - 1)))
      (le_of_eq (mul_assoc (2 ^ prec f) 2 (hid f) ∙ ap (λ (z : ℕ). 2 ^ prec f * z) (sym (twice_hid (prec f) positive_prec)))))

  small : r ≤ 2 ^ prec f
  small = near_small (prec f) (m * (1 + w % 2) * hid f) r near (le_of_lt S-lt)

  root_units : root_of f (m * 2 ^ (prec f - 1 + w)) ≡ units f false r (w / 2)
  root_units = ap (λ (z : ℕ). root_of f z) (parts m (prec f - 1) w) ∙ root_is f (m * (1 + w % 2) * hid f) (w / 2) r S-ge S-lt near

  root_bits : of_bits f (w / 2 * hid f + r) ≡ units f false r (w / 2)
  root_bits =
      ap (λ (z : ℕ). of_bits f z) (sym (zero-add (w / 2 * hid f + r)))
      ∙ encode f false r (w / 2) small (inr (leads (m * (1 + w % 2) * hid f) r (hid f) (pow_pos (prec f - 1)) S-ge near.1)) (fine_at f w r few small)

  pub root_value : of_bits f (w / 2 * K + r) ≡ root_of f (m * 2 ^ (prec f - 1 + w))
  root_value = rw K-is (root_bits ∙ sym root_units)

  pub root_finite : w / 2 * K + r ≤ ones f * hid f
  root_finite = rw K-is (finite_at f w r few small)

-- ---- a pattern's root, by its parts
pub root_suc : (f : Format) (b x w : ℕ) → b < top f → b % top f / hid f ≡ suc x → suc x < ones f → x + low f ≡ prec f - 1 + w → rooted f (of_bits f b) ≡ root_of f ((hid f + b % hid f) * 2 ^ (prec f - 1 + w))
root_suc f b x w h e l s =
    let Q = hid f + b % hid f in
    rooted_at f (of_bits f b) (Q * 2 ^ x) (mul-pos (lt_of_lt_of_le (pow_pos (prec f - 1)) (below (hid f) (b % hid f))) (pow_pos x))
    (subst (λ (t : Bool). HasValue (of_bits f b) t (Q * 2 ^ x) (2 ^ low f)) (lt-leb (top f) b h) (decode_suc f b x e l))
    ∙ ap (λ (z : ℕ). root_of f z) (mul_assoc Q (2 ^ x) (2 ^ low f) ∙ ap (λ (z : ℕ). Q * z) (sym (pow-add 2 x (low f)) ∙ ap (λ (z : ℕ). 2 ^ z) s))
  where
    below : (a b : ℕ) → a ≤ a + b
    below a b = omega arith

pub root_zero : (f : Format) (b z w : ℕ) → b < top f → b % top f / hid f ≡ 0 → 0 < b → b % hid f ≡ b → low f ≡ z + (prec f - 1 + w) → rooted f (of_bits f b) ≡ root_of f (b * 2 ^ z * 2 ^ (prec f - 1 + w))
root_zero f b z w h e p u s =
    rooted_at f (of_bits f b) (b * 2 ^ 0) (mul-pos p (pow_pos 0))
    (subst (λ (t : Bool). HasValue (of_bits f b) t (b * 2 ^ 0) (2 ^ low f)) (lt-leb (top f) b h) (subst (λ (t : ℕ). HasValue (of_bits f b) (leb (top f) b) (t * 2 ^ 0) (2 ^ low f)) u (decode_zero f b e)))
    ∙ ap (λ (n : ℕ). root_of f n) (ap (λ (n : ℕ). n * 2 ^ low f) (mul-one b) ∙ ap (λ (n : ℕ). b * n) (ap (λ (n : ℕ). 2 ^ n) s ∙ pow-add 2 z (prec f - 1 + w)) ∙ sym (mul_assoc b (2 ^ z) (2 ^ (prec f - 1 + w))))

-- ---- below zero, at zero and at the infinities
rooted_neg : (f : Format) (x : Float) (n c : ℕ) → 0 < n → HasValue x true n c → rooted f x ≡ nan
unfolding rooted
rooted_neg f nan n c p h = absurd h
rooted_neg f (inf s) n c p h = absurd h
rooted_neg f (fin s zero e) n c p h = absurd (lt_irrefl 0 (subst (λ (z : ℕ). 0 < z) (sym h.1 ∙ ap (λ (z : ℕ). z * c) (zero-mul (up e)) ∙ zero-mul c) (mul-pos p (down_pos e))))
rooted_neg f (fin s (suc m) e) n c p h = ap (λ (t : Bool). cond t nan (root_of f (suc m * up e * (2 ^ low f * 2 ^ low f) / down e))) h.0

rooted_minus : (f : Format) → rooted f (inf true) ≡ nan
unfolding rooted
rooted_minus f = refl

pub rooted_nan : (f : Format) → rooted f nan ≡ nan
unfolding rooted
rooted_nan f = refl

pub rooted_plus : (f : Format) → rooted f (inf false) ≡ inf false
unfolding rooted
rooted_plus f = refl

pub rooted_nought : (f : Format) (s : Bool) (e : _) → rooted f (fin s 0 e) ≡ fin s 0 e
unfolding rooted
rooted_nought f s e = refl

pub root_below : (f : Format) (b : ℕ) → top f ≤ b → T (not (nan_bits f b)) → b % top f / hid f ≤ ones f → (b % top f / hid f ≡ 0 → 0 < b % hid f) → rooted f (of_bits f b) ≡ nan
root_below f b h n l z = go (b % top f / hid f) refl (eq-or-lt_of_le l)
  where
    minus : leb (top f) b ≡ true
    minus = is_true (leb (top f) b) (le→leb (top f) b h)

    at : (n : ℕ) → HasValue (of_bits f b) (leb (top f) b) n (2 ^ low f) → HasValue (of_bits f b) true n (2 ^ low f)
    at n v = subst (λ (t : Bool). HasValue (of_bits f b) t n (2 ^ low f)) minus v

    lead : (a b : ℕ) → 0 < a → 0 < a + b
    lead a b h = omega arith

    go : (e : ℕ) → b % top f / hid f ≡ e → (b % top f / hid f ≡ ones f) ⊎ (b % top f / hid f < ones f) → rooted f (of_bits f b) ≡ nan
    go e d (inl o) = ap (λ (x : Float). rooted f x) (decode_inf f b o (no_digits f b n o) ∙ ap inf minus) ∙ rooted_minus f
    go zero d (inr k) = rooted_neg f (of_bits f b) (b % hid f * 2 ^ 0) (2 ^ low f) (mul-pos (z d) (pow_pos 0)) (at (b % hid f * 2 ^ 0) (decode_zero f b d))
    go (suc x) d (inr k) =
        rooted_neg f (of_bits f b) ((hid f + b % hid f) * 2 ^ x) (2 ^ low f) (mul-pos (lead (hid f) (b % hid f) (pow_pos (prec f - 1))) (pow_pos x))
        (at ((hid f + b % hid f) * 2 ^ x) (decode_suc f b x d (subst (λ (y : ℕ). y < ones f) d k)))

-- ---- the leading zeros of a subnormal value's digits, of which there are fewer than p, in W bits
abbrev Shifted : ℕ → ℕ → ℕ → Type 0
Shifted W p b = (W ≤ count_leading_zeros 64 b + p) × (count_leading_zeros 64 b ≤ 64) × (2 ^ (p - 1) ≤ b * 2 ^ (count_leading_zeros 64 b + p - W)) × (b * 2 ^ (count_leading_zeros 64 b + p - W) < 2 ^ p)

pub shifted_up : (p b : ℕ) → 1 ≤ p → p ≤ 60 → 0 < b → b < 2 ^ (p - 1) → Shifted 64 p b
shifted_up p b P u h k =
    let t = leading_top 64 b h (lt_of_lt_of_le k (pow_mono (wide p u))) in
    let z = count_leading_zeros 64 b in
    let j = t.0 in
    let j_lt : j < p - 1 = lt_of_not-le (λ (g : p - 1 ≤ j). lt_irrefl b (lt_of_lt_of_le k (le_trans (pow_mono g) t.2))) in
    let d = z + p - 64 in (
      some z p j t.1 j_lt,
      most z j t.1,
      le_trans (le_of_eq (ap (λ (x : ℕ). 2 ^ x) (lower z p j t.1 j_lt) ∙ pow-add 2 j d)) (mul-le-mul_right (2 ^ d) t.2),
      lt_of_lt_of_le (shl_lt (suc j) d t.3) (le_of_eq (ap (λ (x : ℕ). 2 ^ x) (upper z p j t.1 j_lt))),
    )
  where
    wide : (p : ℕ) → p ≤ 60 → p - 1 ≤ 64
    wide p h = omega arith

    some : (z p j : ℕ) → z + suc j ≡ 64 → j < p - 1 → 64 ≤ z + p
    some z p j e h = omega arith

    most : (z j : ℕ) → z + suc j ≡ 64 → z ≤ 64
    most z j e = omega arith

    lower : (z p j : ℕ) → z + suc j ≡ 64 → j < p - 1 → p - 1 ≡ j + (z + p - 64)
    lower z p j e h = omega arith

    upper : (z p j : ℕ) → z + suc j ≡ 64 → j < p - 1 → suc j + (z + p - 64) ≡ p
    upper z p j e h = omega arith
