-- How comparisons chain: what is not below m is not below what m is not below. Assumes nothing.
use Prim.Native.Nat.{ℕ, ◌+◌, ◌*◌, ◌≤◌, ◌<◌}
use mathlib.Core.Path.{◌≡◌, refl, sym, subst}
use mathlib.Core.Bool.{Bool, true, false, not, ◌||◌, cond}
use native.Mathlib.Nat.{mul-le-mul_right, le_of_mul-le-mul_right}
use native.Mathlib.Omega.{arith}
use lib.Dec.{T, nltb→le}
use lib.Arith.{le→nltb}
use lib.Ieee.{Float, nan, inf, fin, up, down, below, lt, le, eq, is_nan}
use lib.Ieee.Fits.{down_pos}
use Rattle.ieee.proofs.Orders.{le_not_lt, le_number}

-- ±x / p ≤ ±y / q, with what is below zero on the other side
abbrev Ordered : Bool → ℕ → ℕ → Bool → ℕ → ℕ → Type 0
Ordered s x p t y q = cond s 0 x * q + cond t y 0 * p ≤ cond t 0 y * p + cond s x 0 * q

ordered : (s : Bool) (x p : ℕ) (t : Bool) (y q : ℕ) → T (not (below t (y * p) s (x * q))) → Ordered s x p t y q
ordered false x p false y q h = omega (arith, nltb→le (y * p) (x * q) h)
ordered false x p true y q h = omega (arith, nltb→le 0 (y * p + x * q) h)
ordered true x p false y q h = omega arith
ordered true x p true y q h = omega (arith, nltb→le (x * q) (y * p) h)

refused : (s : Bool) (x p : ℕ) (t : Bool) (y q : ℕ) → Ordered s x p t y q → T (not (below t (y * p) s (x * q)))
refused false x p false y q h = le→nltb (y * p) (x * q) (omega arith)
refused false x p true y q h = le→nltb 0 (y * p + x * q) (omega arith)
refused true x p false y q h = tt
refused true x p true y q h = le→nltb (x * q) (y * p) (omega arith)

chain : (s : Bool) (x p : ℕ) (t : Bool) (y q : ℕ) (u : Bool) (z r : ℕ) → 0 < q → Ordered s x p t y q → Ordered t y q u z r → Ordered s x p u z r
chain s x p t y q u z r Q h k = le_of_mul-le-mul_right (omega (arith, mul-le-mul_right r h, mul-le-mul_right p k)) Q

over : (x : Float) → T (not (lt (inf false) x))
unfolding lt
over nan = tt
over (inf s) = tt
over (fin s i e) = tt

pub not_below : (m y x : Float) → T (not (is_nan m)) → T (not (lt m x)) → T (not (lt y m)) → T (not (lt y x))
unfolding lt is_nan
not_below nan y x n h k = absurd n
not_below (inf true) nan x n h k = tt
not_below (inf true) (inf u) nan n h k = tt
not_below (inf true) (inf true) (inf s) n h k = h
not_below (inf true) (inf false) (inf s) n h k = tt
not_below (inf true) (inf u) (fin s i e) n h k = absurd h
not_below (inf true) (fin u l g) nan n h k = tt
not_below (inf true) (fin u l g) (inf s) n h k = h
not_below (inf true) (fin u l g) (fin s i e) n h k = absurd h
not_below (inf false) nan x n h k = tt
not_below (inf false) (inf true) x n h k = absurd k
not_below (inf false) (inf false) x n h k = over x
not_below (inf false) (fin u l g) x n h k = absurd k
not_below (fin t j d) nan x n h k = tt
not_below (fin t j d) (inf true) x n h k = absurd k
not_below (fin t j d) (inf false) x n h k = over x
not_below (fin t j d) (fin u l g) nan n h k = tt
not_below (fin t j d) (fin u l g) (inf s) n h k = h
not_below (fin t j d) (fin u l g) (fin s i e) n h k =
    refused s (i * up e) (down e) u (l * up g) (down g)
    (chain s (i * up e) (down e) t (j * up d) (down d) u (l * up g) (down g) (down_pos d)
    (ordered s (i * up e) (down e) t (j * up d) (down d) h) (ordered t (j * up d) (down d) u (l * up g) (down g) k))

-- what is at most y is below all that y is below
pub le_lt : (x y z : Float) → T (le x y) → T (lt y z) → T (lt x z)
le_lt x y z l h = go (lt x z) refl
  where
    clash : (b : Bool) → T b → T (not b) → T false
    clash true h k = k
    clash false h k = h

    go : (b : Bool) → lt x z ≡ b → T (lt x z)
    go true e = subst T (sym e) tt
    go false e = absurd (clash (lt y z) h (not_below x y z (le_number x y l).0 (subst (λ (b : Bool). T (not b)) (sym e) tt) (le_not_lt x y l)))

-- what was not below z is not even as small as what is
pub not_as_small : (x y z : Float) → lt y z ≡ true → lt x z ≡ false → le x y ≡ false
not_as_small x y z h k = go (le x y) refl
  where
    go : (b : Bool) → le x y ≡ b → le x y ≡ false
    go true e = absurd (subst T k (le_lt x y z (subst T (sym e) tt) (subst T (sym h) tt)))
    go false e = e

pub not_smaller : (x y : Float) → le x y ≡ false → lt x y ≡ false
unfolding le
not_smaller x y e = go (lt x y) (eq x y) e
  where
    go : (a b : Bool) → a || b ≡ false → a ≡ false
    go true b e = e
    go false b e = refl
