-- The root of a value by what its pattern b looks like, at either format. Assumes nothing.
use Prim.Native.Nat.{ℕ, suc, ◌+◌, ◌-◌, ◌*◌, ◌/◌, ◌%◌, ◌^◌, ◌≤◌, ◌<◌}
use mathlib.Core.Path.{◌≡◌, refl, sym, ap, ◌∙◌, subst}
use mathlib.Core.Logic.{◌⊎◌, inl, inr}
use mathlib.Core.Bool.{Bool, true, false, not}
use native.Mathlib.Nat.{eq-or-lt_of_le, mod-eq_of_lt, lt_of_lt_of_le, le_of_lt}
use native.Mathlib.Omega.{arith}
use lib.Dec.{T, nltb→le, lit≤}
use lib.Count.{count_leading_zeros}
use lib.Ieee.{Float, nan, Format, binary32, binary64, prec, emax, low, hid, ones, top, fits, nan_bits, of_bits, to_bits, ne}
use lib.Ieee.Bits.{of_bits-to_bits, to_bits-lt, nan_bits_above}
use lib.Ieee.Compare.{differs_from_itself}
use Rattle.ieee.specs.Root.{root_of, rooted}
use Rattle.ieee.proofs.Floats.{is_no_nan, number_pattern}
use Rattle.ieee.proofs.Rooting.{rooted_nan, rooted_plus, rooted_nought, root_below, root_suc, root_zero, shifted_up}

-- ---- a pattern whose value is its own root: both zeros and the infinity
abbrev Fixed : Format → ℕ → Type 0
Fixed f b = of_bits f b ≡ rooted f (of_bits f b)

fixed_zero : (f : Format) → Fixed f 0
unfolding of_bits
fixed_zero binary32 = sym (rooted_nought binary32 false _)
fixed_zero binary64 = sym (rooted_nought binary64 false _)

fixed_minus : (f : Format) → Fixed f (top f)
unfolding of_bits
fixed_minus binary32 = sym (rooted_nought binary32 true _)
fixed_minus binary64 = sym (rooted_nought binary64 true _)

fixed_inf : (f : Format) → Fixed f (ones f * hid f)
unfolding of_bits
fixed_inf binary32 = sym (rooted_plus binary32)
fixed_inf binary64 = sym (rooted_plus binary64)

-- the patterns of negative numbers
exponent : (f : Format) (b : ℕ) → b % top f / hid f ≤ ones f
exponent binary32 b = omega arith
exponent binary64 b = omega arith

digits : (f : Format) (b : ℕ) → b < 2 * top f → top f < b → b % top f / hid f ≡ 0 → 0 < b % hid f
digits binary32 b u h e = omega arith
digits binary64 b u h e = omega arith

pub at_nan : (f : Format) (x : Float) → ne x x ≡ true → x ≡ rooted f x
at_nan f x t =
    let e = differs_from_itself x (subst T (sym t) tt) in
    e ∙ sym (ap (rooted f) e ∙ rooted_nan f)

module _ (f : Format) (x : Float) (held : T (fits f x)) where
  own : Fixed f (to_bits f x) → x ≡ rooted f x
  own e = subst (λ (y : Float). y ≡ rooted f y) (of_bits-to_bits f x held) e

  no_nan_bits : ne x x ≡ false → T (not (nan_bits f (to_bits f x)))
  no_nan_bits e = number_pattern f x held (is_no_nan x e)

  pub at_zero : to_bits f x ≡ 0 → x ≡ rooted f x
  at_zero e = own (subst (Fixed f) (sym e) (fixed_zero f))

  pub of_pattern : (r : Float) → r ≡ rooted f (of_bits f (to_bits f x)) → r ≡ rooted f x
  of_pattern r e = e ∙ ap (rooted f) (of_bits-to_bits f x held)

  -- the infinity, or -0
  pub at_high : ne x x ≡ false → ones f * hid f ≤ to_bits f x → to_bits f x ≤ top f → x ≡ rooted f x
  at_high e h k = own (go (eq-or-lt_of_le k))
    where
      upper : to_bits f x % top f ≤ ones f * hid f
      upper = nltb→le (ones f * hid f) (to_bits f x % top f) (subst (λ (t : Bool). T (not t)) (nan_bits_above f (to_bits f x)) (no_nan_bits e))

      go : (to_bits f x ≡ top f) ⊎ (to_bits f x < top f) → Fixed f (to_bits f x)
      go (inl q) = subst (Fixed f) (sym q) (fixed_minus f)
      go (inr l) =
          let q : ones f * hid f ≡ to_bits f x = omega (arith, upper, mod-eq_of_lt l) in
          subst (Fixed f) q (fixed_inf f)

  pub at_negative : ne x x ≡ false → top f < to_bits f x → rooted f x ≡ nan
  at_negative e h =
      sym (of_pattern (rooted f (of_bits f (to_bits f x))) refl)
      ∙ root_below f (to_bits f x) (le_of_lt h) (no_nan_bits e) (exponent f (to_bits f x)) (λ z. digits f (to_bits f x) (to_bits-lt f x held) h z)

-- ---- a subnormal pattern, raised so that its leading digit is that of a normal one
abbrev pub raise : Format → ℕ → ℕ
raise f b = count_leading_zeros 64 b - (64 - prec f)

pub record Raised (f : Format) (b : ℕ) : Type 0 where
  pub enough : 64 - prec f ≤ count_leading_zeros 64 b
  pub few : count_leading_zeros 64 b ≤ 64
  pub least : hid f ≤ b * 2 ^ raise f b
  pub most : b * 2 ^ raise f b < 2 ^ prec f
  -- nothing is shifted out of 64 bits
  pub whole : b * 2 ^ raise f b % 2 ^ 64 ≡ b * 2 ^ raise f b

pub raised : (f : Format) (b : ℕ) → 0 < b → b < hid f → Raised f b
raised f b p h =
    let s = shifted_up (prec f) b (some f) (fits_60 f) p h in
    let e : count_leading_zeros 64 b + prec f - 64 ≡ raise f b = around f (count_leading_zeros 64 b) s.0 in
    let m : b * 2 ^ raise f b < 2 ^ prec f = rw e at s.3 in
    record { enough = omega (arith, s.0); few = s.1; least = rw e at s.2; most = m; whole = mod-eq_of_lt (lt_of_lt_of_le m (fits_64 f)) }
  where
    some : (f : Format) → 1 ≤ prec f
    some binary32 = lit≤ tt
    some binary64 = lit≤ tt

    fits_60 : (f : Format) → prec f ≤ 60
    fits_60 binary32 = lit≤ tt
    fits_60 binary64 = lit≤ tt

    fits_64 : (f : Format) → 2 ^ prec f ≤ 2 ^ 64
    fits_64 binary32 = lit≤ tt
    fits_64 binary64 = lit≤ tt

    around : (f : Format) (z : ℕ) → 64 ≤ z + prec f → z + prec f - 64 ≡ z - (64 - prec f)
    around binary32 z h = omega arith
    around binary64 z h = omega arith

pub root_subnormal : (f : Format) (b : ℕ) → 0 < b → b < hid f → rooted f (of_bits f b) ≡ root_of f (b * 2 ^ raise f b % 2 ^ 64 * 2 ^ (prec f - 1 + (emax f - 1 - raise f b)))
root_subnormal f b p h =
    let u = raised f b p h in
    let q = parts f b h in
    rw u.whole (root_zero f b (raise f b) (emax f - 1 - raise f b) q.0 q.1 p q.2 (sum f (count_leading_zeros 64 b) u.few))
  where
    parts : (f : Format) (b : ℕ) → b < hid f → (b < top f) × (b % top f / hid f ≡ 0) × (b % hid f ≡ b)
    parts binary32 b h = (omega arith, omega arith, omega arith)
    parts binary64 b h = (omega arith, omega arith, omega arith)

    sum : (f : Format) (z : ℕ) → z ≤ 64 → low f ≡ z - (64 - prec f) + (prec f - 1 + (emax f - 1 - (z - (64 - prec f))))
    sum binary32 z h = omega arith
    sum binary64 z h = omega arith

pub root_normal : (f : Format) (b : ℕ) → hid f ≤ b → b < ones f * hid f → rooted f (of_bits f b) ≡ root_of f ((hid f + b % hid f) * 2 ^ (prec f - 1 + (b / hid f + (emax f - 2))))
root_normal f b l h =
    let q = parts f b l h in
    root_suc f b (b / hid f - 1) (b / hid f + (emax f - 2)) q.0 q.1 q.2 q.3
  where
    parts : (f : Format) (b : ℕ) → hid f ≤ b → b < ones f * hid f → (b < top f) × (b % top f / hid f ≡ suc (b / hid f - 1)) × (suc (b / hid f - 1) < ones f) × (b / hid f - 1 + low f ≡ prec f - 1 + (b / hid f + (emax f - 2)))
    parts binary32 b l h = (omega arith, omega arith, omega arith, omega arith)
    parts binary64 b l h = (omega arith, omega arith, omega arith, omega arith)

-- ---- the code's words for the format's sizes
pub leading_hidden : (f : Format) → count_leading_zeros 64 (hid f) ≡ 64 - prec f
unfolding count_leading_zeros
leading_hidden binary32 = refl
leading_hidden binary64 = refl

pub infinity_is : (f : Format) → top f - hid f ≡ ones f * hid f
infinity_is binary32 = refl
infinity_is binary64 = refl

pub below_hidden : (f : Format) (b : ℕ) → b / hid f ≡ 0 → b < hid f
below_hidden binary32 b e = omega arith
below_hidden binary64 b e = omega arith

pub from_hidden : (f : Format) (b : ℕ) → ¬ (b / hid f ≡ 0) → hid f ≤ b
from_hidden binary32 b n = omega arith
from_hidden binary64 b n = omega arith
