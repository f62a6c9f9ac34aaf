-- Sums keep to a side of zero: of two floats that are not above zero the sum is not above zero, and of two that are not
-- below it the sum is not below it. A NaN is on both sides. Assumes nothing.
use Prim.Native.Nat.{ℕ, zero, suc, ◌+◌, ◌-◌, ◌*◌, ◌^◌, ◌≤◌, ◌<◌}
use mathlib.Core.Path.{◌≡◌, refl, sym, ap, subst}
use mathlib.Core.Bool.{Bool, true, false, not, cond, beq}
use mathlib.Core.Logic.{◌⊎◌, inl, inr}
use native.Mathlib.Nat.{mul-pos, zero-lt-suc}
use native.Mathlib.Omega.{arith}
use lib.Dec.{T, ltb, nltb→le}
use lib.Arith.{le→nltb}
use lib.IntN.{ℤ, pos}
use lib.Ieee.{Float, nan, inf, fin, binary32, up, down, lt, neg, add, sub, sum, round, odd, units}
use lib.Ieee.Fits.{up_pos, down_pos, round_is}
use lib.Ieee.Scale.{round_same}
use borrow.Author.Tests.{ltb-false}

abbrev pub nought : Float
nought = fin false 0 (pos 0)

-- x is not above zero, and x is not below zero
abbrev pub side : Bool → Float → Bool
side true x = not (lt nought x)
side false x = not (lt x nought)

-- a sign is that of the side, or there is nothing to sign
abbrev On : Bool → Bool → ℕ → Type 0
On r s a = (s ≡ r) ⊎ (a ≡ 0)

pub nan_side : (r : Bool) → T (side r nan)
unfolding lt
nan_side true = tt
nan_side false = tt

inf_side : (s : Bool) → T (side s (inf s))
unfolding lt
inf_side true = tt
inf_side false = tt

fin_side : (s : Bool) (m : ℕ) (e : ℤ) → T (side s (fin s m e))
unfolding lt
fin_side true m e = tt
fin_side false m e = le→nltb (m * up e * 1) (0 * 1 * down e) (omega arith)

-- ---- a finite float is on a side by its sign, or where it is zero

nothing : (m : ℕ) (e : ℤ) (a : ℕ) → m * up e * 1 + a ≤ 0 → m ≡ 0
nothing zero e a h = refl
nothing (suc m) e a h = absurd (omega (arith, mul-pos (mul-pos (zero-lt-suc m) (up_pos e)) (zero-lt-suc 0)))

on_side : (r s : Bool) (m : ℕ) (e : ℤ) → T (side r (fin s m e)) → On r s m
unfolding lt
on_side true true m e h = inl refl
on_side true false m e h = inr (nothing m e 0 (omega (arith, nltb→le (0 * 1 * down e) (m * up e * 1) h)))
on_side false true m e h = inr (nothing m e (0 * 1 * down e) (nltb→le 0 (m * up e * 1 + 0 * 1 * down e) h))
on_side false false m e h = inl refl

zero_side : (r s : Bool) (e : ℤ) → T (side r (fin s 0 e))
unfolding lt
zero_side true true e = tt
zero_side true false e = le→nltb (0 * 1 * down e) (0 * up e * 1) (omega arith)
zero_side false true e = le→nltb 0 (0 * up e * 1 + 0 * 1 * down e) (omega arith)
zero_side false false e = le→nltb (0 * up e * 1) (0 * 1 * down e) (omega arith)

of_sign : (r s : Bool) (m : ℕ) (e : ℤ) → On r s m → T (side r (fin s m e))
of_sign r s m e (inl q) = rw q (fin_side r m e)
of_sign r s m e (inr q) = rw q (zero_side r s e)

-- ---- rounding keeps the sign

cond_side : (r b : Bool) (x y : Float) → T (side r x) → T (side r y) → T (side r (cond b x y))
cond_side r true x y p q = p
cond_side r false x y p q = q

odd_side : (d : ℕ) (s : Bool) (q k l : ℕ) → T (side s (odd d s q k l))
unfolding odd
odd_side d s zero k l = fin_side s 0 (pos 0)
odd_side d s (suc q) k l = fin_side s _ _

units_side : (s : Bool) (q k : ℕ) → T (side s (units binary32 s q k))
unfolding units
units_side s q k = cond_side s (ltb (q * 2 ^ k) (2 ^ 277)) (odd 25 s q k 149) (inf s) (odd_side 25 s q k 149) (inf_side s)

round_own : (s : Bool) (a c : ℕ) → T (side s (round binary32 s a c))
round_own s a c = subst (λ (x : Float). T (side s x)) (sym (round_is binary32 s a c)) (units_side s _ _)

round_none : (r s : Bool) (c : ℕ) → 0 < c → T (side r (round binary32 s 0 c))
unfolding round
round_none r s c h = rw (round_same binary32 s 0 c 0 1 h (zero-lt-suc 0) (omega arith)) (go r s)
  where
    go : (r s : Bool) → T (side r (round binary32 s 0 1))
    go r true = zero_side r true (pos 0)
    go r false = zero_side r false (pos 0)

round_side : (r s : Bool) (a c : ℕ) → 0 < c → On r s a → T (side r (round binary32 s a c))
round_side r s a c h (inl q) = rw q (round_own r a c)
round_side r s a c h (inr q) = rw q (round_none r s c h)

-- ---- sums

both : (r s : Bool) (a b : ℕ) → On r s a → On r s b → On r s (a + b)
both r s a b (inl p) q = inl p
both r s a b (inr p) (inl q) = inl q
both r s a b (inr p) (inr q) = inr (omega arith)

less : (r s : Bool) (a b : ℕ) → On r s a → On r s (a - b)
less r s a b (inl p) = inl p
less r s a b (inr p) = inr (omega arith)

sum_side : (r s : Bool) (a : ℕ) (t : Bool) (b c : ℕ) → 0 < c → On r s a → On r t b → T (side r (sum binary32 s a t b c))
unfolding sum
sum_side r true a true b c h p q = round_side r true (a + b) c h (both r true a b p q)
sum_side r false a false b c h p q = round_side r false (a + b) c h (both r false a b p q)
sum_side r false a true b c h p q =
    cond_side r (ltb a b) _ _ (round_side r true (b - a) c h (less r true b a q)) (round_side r false (a - b) c h (less r false a b p))
sum_side r true a false b c h p q = go (ltb a b) refl (ltb b a) refl
  where
    go : (u : Bool) → ltb a b ≡ u → (v : Bool) → ltb b a ≡ v → T (side r (cond u (round binary32 false (b - a) c) (round binary32 v (a - b) c)))
    go true e v e' = round_side r false (b - a) c h (less r false b a q)
    go false e true e' = round_side r true (a - b) c h (less r true a b p)
    go false e false e' = round_side r false (a - b) c h (inr (omega (arith, ltb-false a b e, ltb-false b a e')))

pub add_side : (r : Bool) (x y : Float) → T (side r x) → T (side r y) → T (side r (add binary32 x y))
unfolding add
add_side r nan y p q = nan_side r
add_side r (inf s) nan p q = nan_side r
add_side r (inf s) (inf t) p q = cond_side r (beq s t) (inf s) nan p (nan_side r)
add_side r (inf s) (fin t n d) p q = p
add_side r (fin s m e) nan p q = nan_side r
add_side r (fin s m e) (inf t) p q = q
add_side r (fin s m e) (fin t n d) p q =
    sum_side r s (m * up e * down d) t (n * up d * down e) (down e * down d) (mul-pos (down_pos e) (down_pos d))
    (scaled r s m (up e) (down d) (on_side r s m e p)) (scaled r t n (up d) (down e) (on_side r t n d q))
  where
    scaled : (r s : Bool) (m u d : ℕ) → On r s m → On r s (m * u * d)
    scaled r s m u d (inl p) = inl p
    scaled r s m u d (inr p) = inr (rw p (omega arith))

-- ---- negation changes sides

pub neg_side : (r : Bool) (x : Float) → T (side (not r) x) → T (side r (neg x))
unfolding neg lt
neg_side r nan h = nan_side r
neg_side true (inf true) h = h
neg_side true (inf false) h = tt
neg_side false (inf true) h = tt
neg_side false (inf false) h = h
neg_side r (fin s m e) h = of_sign r (not s) m e (go r s (on_side (not r) s m e h))
  where
    go : (r s : Bool) → On (not r) s m → On r (not s) m
    go true s (inl p) = inl (ap not p)
    go false s (inl p) = inl (ap not p)
    go r s (inr p) = inr p

-- what is not below zero, taken from what is not above zero, leaves what is not above zero
pub sub_side : (x y : Float) → T (side true x) → T (side false y) → T (side true (sub binary32 x y))
unfolding sub
sub_side x y p q = add_side true x (neg y) p (neg_side true y q)
