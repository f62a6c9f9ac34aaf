-- How floats compare, and what follows for `max`, `clamp`, `abs` and the finite ones. Assumes nothing.
use Prim.Native.Nat.{ℕ, ◌+◌, ◌*◌, ◌≤◌, ◌<◌}
use mathlib.Core.Path.{◌≡◌, refl, sym, subst}
use mathlib.Core.Logic.{◌⊎◌, inl, inr}
use mathlib.Core.Bool.{Bool, true, false, not, ◌&&◌, ◌||◌, cond}
use native.Mathlib.Nat.{le_of_lt, le_of_eq, eq-or-lt_of_le}
use native.Mathlib.Omega.{arith}
use lib.Dec.{T, ltb, eqb, ltb→lt, eqb→eq}
use lib.Arith.{le→nltb}
use lib.Ieee.{Float, nan, inf, fin, up, down, below, level, lt, le, eq, ne, is_nan}
use lib.Ieee.Bits.{is_false}
use lib.Ieee.Compare.{differs_from_itself}
use lib.Ieee.Fits.{and_l, and_r}
use borrow.Author.Tests.{ltb-false, lt-ltb, le-ltb, eq-eqb}
use Rattle.std.specs.Float.{float_with_sign, float_is_finite}
use Rattle.ieee.specs.Order.{max_of, clamp_of, abs_of, is_finite, MaxLaws, ClampLaws}
use Rattle.ieee.proofs.Floats.{is_no_nan}

either : (a b : Bool) (P : Type 0) → (T a → P) → (T b → P) → T (a || b) → P
either true b P f g t = f tt
either false b P f g t = g t

levels : (s : Bool) (a : ℕ) (t : Bool) (b : ℕ) → T (below s a t b || level s a t b) → T (not (below t b s a))
levels false a false b h = le→nltb b a (either (ltb a b) (eqb a b && true) (a ≤ b) (λ t. le_of_lt (ltb→lt a b t)) (λ t. le_of_eq (eqb→eq a b (and_l (eqb a b) true t))) h)
levels false a true b h = le→nltb 0 (b + a) (none a b (eqb→eq a b (and_l (eqb a b) (eqb a 0) h)) (eqb→eq a 0 (and_r (eqb a b) (eqb a 0) h)))
  where
    none : (a b : ℕ) → a ≡ b → a ≡ 0 → b + a ≤ 0
    none a b e z = omega arith
levels true a false b h = tt
levels true a true b h = le→nltb a b (either (ltb b a) (eqb a b && true) (b ≤ a) (λ t. le_of_lt (ltb→lt b a t)) (λ t. le_of_eq (sym (eqb→eq a b (and_l (eqb a b) true t)))) h)

pub le_not_lt : (x y : Float) → T (le x y) → T (not (lt y x))
unfolding le lt
le_not_lt nan y h = absurd h
le_not_lt (inf s) nan h = absurd h
le_not_lt (inf true) (inf true) h = tt
le_not_lt (inf true) (inf false) h = tt
le_not_lt (inf false) (inf true) h = absurd h
le_not_lt (inf false) (inf false) h = tt
le_not_lt (inf true) (fin t n d) h = tt
le_not_lt (inf false) (fin t n d) h = absurd h
le_not_lt (fin s m e) nan h = absurd h
le_not_lt (fin s m e) (inf true) h = absurd h
le_not_lt (fin s m e) (inf false) h = tt
le_not_lt (fin s m e) (fin t n d) h = levels s (m * up e * down d) t (n * up d * down e) h

-- ---- x < y leaves no y < x, and no number is below itself

pub lt_not_lt : (x y : Float) → lt x y ≡ true → T (not (lt y x))
unfolding le
lt_not_lt x y h = le_not_lt x y (subst (λ (b : Bool). T (b || eq x y)) (sym h) tt)

pub not_below_itself : (x : Float) → T (not (lt x x))
not_below_itself x = go (lt x x) refl
  where
    go : (b : Bool) → lt x x ≡ b → T (not (lt x x))
    go true e = lt_not_lt x x e
    go false e = subst (λ (b : Bool). T (not b)) (sym e) tt

-- ---- of two numbers, what is not below the other is at least the other

covers : (a b : ℕ) (q : Bool) → b ≤ a → (b ≡ a → T q) → T (ltb b a || q)
covers a b q h f = go (eq-or-lt_of_le h)
  where
    go : (b ≡ a) ⊎ (b < a) → T (ltb b a || q)
    go (inl e) = rw (le-ltb b a (omega arith)) (f e)
    go (inr l) = rw (lt-ltb b a l) tt

neither : (s : Bool) (a : ℕ) (t : Bool) (b : ℕ) → below s a t b ≡ false → T (below t b s a || level t b s a)
neither false a false b h = covers a b (eqb b a && true) (ltb-false a b h) (λ e. rw (eq-eqb b a e) tt)
neither false a true b h = covers (b + a) 0 (eqb b a && eqb b 0) (omega arith) (λ e. rw (eq-eqb b a (omega arith), eq-eqb b 0 (omega arith)) tt)
neither true a false b h =
    let n : a + b ≤ 0 = ltb-false 0 (a + b) h in
    rw (eq-eqb b a (omega arith), eq-eqb b 0 (omega arith)) tt
neither true a true b h = covers b a (eqb b a && true) (ltb-false b a h) (λ e. rw (eq-eqb b a (omega arith)) tt)

pub not_lt_le : (x y : Float) → T (not (is_nan x)) → T (not (is_nan y)) → lt x y ≡ false → T (le y x)
unfolding le lt eq is_nan
not_lt_le nan y h k e = absurd h
not_lt_le (inf s) nan h k e = absurd k
not_lt_le (inf true) (inf true) h k e = tt
not_lt_le (inf true) (inf false) h k e = absurd (subst T e tt)
not_lt_le (inf false) (inf true) h k e = tt
not_lt_le (inf false) (inf false) h k e = tt
not_lt_le (inf true) (fin t n d) h k e = absurd (subst T e tt)
not_lt_le (inf false) (fin t n d) h k e = tt
not_lt_le (fin s m e') nan h k e = absurd k
not_lt_le (fin s m e') (inf true) h k e = tt
not_lt_le (fin s m e') (inf false) h k e = absurd (subst T e tt)
not_lt_le (fin s m e') (fin t n d) h k e = neither s (m * up e' * down d) t (n * up d * down e') e

pub le_itself : (x : Float) → T (not (is_nan x)) → T (le x x)
le_itself x h = not_lt_le x x h h (is_false (lt x x) (not_below_itself x))

-- what compares is no NaN
pub le_number : (x y : Float) → T (le x y) → T (not (is_nan x)) × T (not (is_nan y))
unfolding le lt eq is_nan
le_number nan y h = absurd h
le_number (inf s) nan h = absurd h
le_number (inf s) (inf t) h = (tt, tt)
le_number (inf s) (fin t n d) h = (tt, tt)
le_number (fin s m e) nan h = absurd h
le_number (fin s m e) (inf t) h = (tt, tt)
le_number (fin s m e) (fin t n d) h = (tt, tt)

not_below_nan : (y : Float) → T (not (lt y nan))
unfolding lt
not_below_nan nan = tt
not_below_nan (inf s) = tt
not_below_nan (fin s m e) = tt

-- ---- max: by the two tests that it makes

pub max_laws : MaxLaws
unfolding max_of
max_laws = record { first = λ x y. first x y (lt x y) refl (ne x x) refl; second = λ x y. second x y (lt x y) refl (ne x x) refl; number = λ x y h. number x y h (lt x y) refl (ne x x) refl }
  where
    apart : (x y : Float) → lt x y ≡ false → T (not (lt x y))
    apart x y e = subst (λ (b : Bool). T (not b)) (sym e) tt

    first : (x y : Float) (b : Bool) → lt x y ≡ b → (n : Bool) → ne x x ≡ n → T (not (lt (cond b y (cond n y x)) x))
    first x y true e n e' = lt_not_lt x y e
    first x y false e true e' = subst (λ (z : Float). T (not (lt y z))) (sym (differs_from_itself x (subst T (sym e') tt))) (not_below_nan y)
    first x y false e false e' = not_below_itself x

    second : (x y : Float) (b : Bool) → lt x y ≡ b → (n : Bool) → ne x x ≡ n → T (not (lt (cond b y (cond n y x)) y))
    second x y true e n e' = not_below_itself y
    second x y false e true e' = not_below_itself y
    second x y false e false e' = apart x y e

    number : (x y : Float) → T (not (is_nan y)) → (b : Bool) → lt x y ≡ b → (n : Bool) → ne x x ≡ n → T (not (is_nan (cond b y (cond n y x))))
    number x y h true e n e' = h
    number x y h false e true e' = h
    number x y h false e false e' = is_no_nan x e'

-- ---- clamp

pub clamp_laws : ClampLaws
unfolding clamp_of
clamp_laws = record {
  low = λ x lo hi h l. low x lo hi h l (lt x lo) refl (lt hi x);
  high = λ x lo hi h l. high x lo hi h l (lt x lo) (lt hi x) refl;
  inside = λ x lo hi h l. inside x lo hi (lt x lo) (lt hi x) h l;
}
  where
    low : (x lo hi : Float) → T (not (is_nan x)) → T (le lo hi) → (b : Bool) → lt x lo ≡ b → (c : Bool) → T (le lo (cond b lo (cond c hi x)))
    low x lo hi h l true e c = le_itself lo (le_number lo hi l).0
    low x lo hi h l false e true = l
    low x lo hi h l false e false = not_lt_le x lo h (le_number lo hi l).0 e

    high : (x lo hi : Float) → T (not (is_nan x)) → T (le lo hi) → (b c : Bool) → lt hi x ≡ c → T (le (cond b lo (cond c hi x)) hi)
    high x lo hi h l true c e = l
    high x lo hi h l false true e = le_itself hi (le_number lo hi l).1
    high x lo hi h l false false e = not_lt_le hi x (le_number lo hi l).1 h e

    inside : (x lo hi : Float) (b c : Bool) → T (not b) → T (not c) → cond b lo (cond c hi x) ≡ x
    inside x lo hi true c h l = absurd h
    inside x lo hi false true h l = absurd l
    inside x lo hi false false h l = refl

-- ---- abs and the finite ones: std's words are this library's

pub abs_is : (x : Float) → float_with_sign false x ≡ abs_of x
unfolding float_with_sign abs_of
abs_is nan = refl
abs_is (inf s) = refl
abs_is (fin s m e) = refl

pub finite_is : (x : Float) → float_is_finite x ≡ is_finite x
unfolding float_is_finite is_finite
finite_is nan = refl
finite_is (inf s) = refl
finite_is (fin s m e) = refl
