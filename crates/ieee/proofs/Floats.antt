-- Small facts on NaN. Assumes nothing.
use mathlib.Core.Path.{◌≡◌, refl, sym, ap, ◌∙◌, subst}
use Prim.Native.Nat.{ℕ, ◌+◌, ◌*◌, ◌/◌, ◌%◌, ◌^◌, ◌≤◌, ◌<◌}
use mathlib.Core.Bool.{Bool, true, false, not, cond}
use lib.Dec.{T, ltb, lt→ltb, le→leb, lit<}
use lib.IntN.{pos}
use lib.Ieee.{Float, nan, inf, fin, Format, binary32, binary64, up, down, low, prec, ones, hid, top, odd, units, round, fits, of_bits, to_bits, is_nan, nan_bits, div, ne, in_float}
use lib.Ieee.Compare.{nan_differs, differs_from_itself}
use lib.Arith.{le→nltb}
use Rattle.std.proofs.lemmas.Bool.{true≢false}
use lib.Ieee.Bits.{of_bits-to_bits, nan_bits_above, nan_bits_is}
use lib.Ieee.Fits.{round_is}
use Rattle.ieee.specs.Narrow.{narrowed}

pub is_no_nan : (x : Float) → ne x x ≡ false → T (not (is_nan x))
unfolding is_nan
is_no_nan nan e = absurd (true≢false (sym nan_differs ∙ e))
is_no_nan (inf s) e = tt
is_no_nan (fin s m d) e = tt

-- a NaN alone differs from itself
same : (x : Float) (b : Bool) → ne x x ≡ b → T (not (is_nan x)) → b ≡ false
unfolding is_nan
same x false e n = refl
same x true e n = absurd (subst (λ (y : Float). T (not (is_nan y))) (differs_from_itself x (subst T (sym e) tt)) n)

pub nan_ne : (x : Float) → ne x x ≡ is_nan x
unfolding is_nan
nan_ne nan = nan_differs
nan_ne (inf s) = same (inf s) (ne (inf s) (inf s)) refl tt
nan_ne (fin s m d) = same (fin s m d) (ne (fin s m d) (fin s m d)) refl tt

pub narrowed_nan : narrowed nan ≡ nan
unfolding narrowed
narrowed_nan = refl

odd_no_nan : (d : ℕ) (s : Bool) (q k l : ℕ) → T (not (is_nan (odd d s q k l)))
unfolding odd is_nan
odd_no_nan d s ℕ.zero k l = tt
odd_no_nan d s (ℕ.suc q) k l = tt

pub units_no_nan : (f : Format) (s : Bool) (q k : ℕ) → T (not (is_nan (units f s q k)))
unfolding units is_nan
units_no_nan f s q k = go (ltb (q * 2 ^ k) (2 ^ _)) (odd (ℕ.suc (prec f)) s q k (low f)) (odd_no_nan (ℕ.suc (prec f)) s q k (low f))
  where
    go : (b : Bool) (x : Float) → T (not (is_nan x)) → T (not (is_nan (cond b x (inf s))))
    go true x h = h
    go false x h = tt

pub round_no_nan : (f : Format) (s : Bool) (a b : ℕ) → T (not (is_nan (round f s a b)))
round_no_nan f s a b = subst (λ (x : Float). T (not (is_nan x))) (sym (round_is f s a b)) (units_no_nan f s _ _)

pub narrowed_no_nan : (x : Float) → T (not (is_nan x)) → T (not (is_nan (narrowed x)))
unfolding narrowed is_nan
narrowed_no_nan nan h = h
narrowed_no_nan (inf s) h = tt
narrowed_no_nan (fin s m e) h = round_no_nan binary32 s (m * up e) (down e)

pub no_nan_pattern : (f : Format) (b : ℕ) → b % top f ≤ ones f * hid f → T (not (nan_bits f b))
no_nan_pattern f b h = subst (λ (t : Bool). T (not t)) (sym (nan_bits_above f b)) (le→nltb (ones f * hid f) (b % top f) h)

pub only_nan : (x : Float) → T (is_nan x) → x ≡ nan
unfolding is_nan
only_nan nan t = refl
only_nan (inf s) t = absurd t
only_nan (fin s m e) t = absurd t

pub nan_pattern : (f : Format) (b : ℕ) → ones f * hid f < b % top f → of_bits f b ≡ nan
nan_pattern f b h = only_nan (of_bits f b) (subst T (sym (nan_bits_above f b) ∙ nan_bits_is f b) (lt→ltb (ones f * hid f) (b % top f) h))

nan_most : (f : Format) → ones f * hid f < (ones f * hid f + hid f / 2) % top f
nan_most binary32 = lit< tt
nan_most binary64 = lit< tt

-- what answers a NaN by the one NaN
pub nan_answer : (f : Format) (h : Float → Float) (x : Float) → h nan ≡ nan → true ≡ is_nan x → of_bits f (ones f * hid f + hid f / 2) ≡ h x
nan_answer f h x e t = nan_pattern f (ones f * hid f + hid f / 2) (nan_most f) ∙ sym (ap h (only_nan x (subst T t tt)) ∙ e)

pub number : (x : Float) → false ≡ is_nan x → T (not (is_nan x))
number x e = subst (λ (t : Bool). T (not t)) e tt

-- what a format holds is the value of its pattern
pub back : (f : Format) (x : Float) → fits f x ≡ true → of_bits f (to_bits f x) ≡ x
back f x held = of_bits-to_bits f x (subst T (sym held) tt)

-- the pattern of a number is no NaN's
pub number_pattern : (f : Format) (x : Float) → T (fits f x) → T (not (is_nan x)) → T (not (nan_bits f (to_bits f x)))
number_pattern f x held n = subst (λ (t : Bool). T (not t)) (sym (nan_bits_is f (to_bits f x) ∙ ap is_nan (of_bits-to_bits f x held))) n

-- a number that f counts without a gap
pub counted : (f : Format) (n : ℕ) → n ≤ 2 ^ prec f → T (in_float f (pos n))
unfolding in_float
counted f n h = le→leb n (2 ^ prec f) h
