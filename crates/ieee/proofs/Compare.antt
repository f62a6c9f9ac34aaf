-- The comparisons: of finite numbers as integers over one divisor, of the others by their clauses. Assumes nothing.
use Prim.Native.Nat.{ℕ, zero, suc, ◌+◌, ◌*◌}
use mathlib.Core.Path.{◌≡◌, refl, sym, ap, ap₂, ◌∙◌, subst}
use mathlib.Core.Logic.{◌↔◌}
use mathlib.Core.Bool.{Bool, true, false, not, ◌&&◌, ◌||◌, beq, cond}
use native.Mathlib.Nat.{zero-mul, zero-add}
use native.Mathlib.Omega.{arith}
use lib.Dec.{T, eqb, eqb→eq, not_T, leb-suc-suc}
use lib.IntN.{ℤ, pos, neg_ℤ, pos-ne-negsuc}
use lib.Signed.{lt_z, ◌<ℤ◌, lt_z_yes, <ℤ_irrefl}
use lib.Ieee.{Float, nan, inf, fin, up, down, below, level, lt, le, eq, ne, is_nan}
use lib.Ieee.Bits.{is_false}
use lib.Ieee.Fits.{and_l, and_r}
use lib.Ieee.Scale.{finite}
use borrow.Author.Tests.{lt-ltb, le-ltb, eq-eqb}
use Rattle.ieee.specs.Nearest.{sign}
use Rattle.ieee.specs.Special.{Zero, SomeNan}
use Rattle.ieee.specs.Compare.{scaled, Comparisons, IeeeComparisons, OnlyComparisons}
use Rattle.ieee.proofs.Special.{every}

-- ---- of finite numbers
signed : Bool → ℕ → ℤ
signed s a = cond s (neg_ℤ (pos a)) (pos a)

below_is : (s : Bool) (a : ℕ) (t : Bool) (b : ℕ) → below s a t b ≡ lt_z (signed s a) (signed t b)
unfolding signed
below_is false a false b = refl
below_is false a true zero = sym (le-ltb a 0 (omega arith))
below_is false a true (suc b) = refl
below_is true zero false b = rw zero-add
below_is true (suc a) false b = lt-ltb 0 (suc a + b) (omega arith)
below_is true zero true zero = refl
below_is true zero true (suc b) = le-ltb (suc b) 0 (omega arith)
below_is true (suc a) true zero = lt-ltb 0 (suc a) (omega arith)
below_is true (suc a) true (suc b) = leb-suc-suc (suc b) a

level→ : (s : Bool) (a : ℕ) (t : Bool) (b : ℕ) → T (level s a t b) → signed s a ≡ signed t b
unfolding signed
level→ s a t b h =
    let q = beq s t || eqb a 0 in
    rw (← eqb→eq a b (and_l (eqb a b) q h)) (go s t (and_r (eqb a b) q h))
  where
    go : (s t : Bool) → T (beq s t || eqb a 0) → cond s (neg_ℤ (pos a)) (pos a) ≡ cond t (neg_ℤ (pos a)) (pos a)
    go true true h = refl
    go true false h = rw (eqb→eq a 0 h)
    go false true h = rw (eqb→eq a 0 h)
    go false false h = refl

level← : (s : Bool) (a : ℕ) (t : Bool) (b : ℕ) → signed s a ≡ signed t b → T (level s a t b)
unfolding signed
level← false a false b h = rw (eq-eqb a b (cc)) tt
level← false a true zero h = rw (eq-eqb a 0 (cc)) tt
level← false a true (suc b) h = absurd (pos-ne-negsuc a b h)
level← true zero false b h = rw (eq-eqb 0 b (cc)) tt
level← true (suc a) false b h = absurd (pos-ne-negsuc b a (sym h))
level← true zero true zero h = tt
level← true zero true (suc b) h = absurd (pos-ne-negsuc 0 b h)
level← true (suc a) true zero h = absurd (pos-ne-negsuc 0 a (sym h))
level← true (suc a) true (suc b) h = rw (eq-eqb (suc a) (suc b) (cc)) tt

lt_exact : (x y : Float) → T (finite x) → T (finite y) → T (lt x y) ↔ (scaled x y <ℤ scaled y x)
unfolding lt signed
lt_exact nan y h k = absurd h
lt_exact (inf s) y h k = absurd h
lt_exact (fin s m e) nan h k = absurd k
lt_exact (fin s m e) (inf t) h k = absurd k
lt_exact (fin s m e) (fin t n d) h k =
    let is = below_is s (m * up e * down d) t (n * up d * down e) in
    (λ p. lt_z_yes (subst T is p), λ p. subst T (sym is) p.lt)

eq_exact : (x y : Float) → T (finite x) → T (finite y) → T (eq x y) ↔ (scaled x y ≡ scaled y x)
unfolding eq signed
eq_exact nan y h k = absurd h
eq_exact (inf s) y h k = absurd h
eq_exact (fin s m e) nan h k = absurd k
eq_exact (fin s m e) (inf t) h k = absurd k
eq_exact (fin s m e) (fin t n d) h k =
    let a = m * up e * down d in
    let b = n * up d * down e in
    (level→ s a t b, level← s a t b)

scaled_zero : (x y : Float) → Zero x → scaled x y ≡ pos 0
scaled_zero x y h = rw (h.1, zero-mul) (go (sign x))
  where
    go : (s : Bool) → cond s (neg_ℤ (pos 0)) (pos 0) ≡ pos 0
    go true = refl
    go false = refl

zero_comparison : (x y : Float) → Zero x → Zero y → T (eq x y) × T (not (lt x y))
zero_comparison x y h k =
    let e : scaled x y ≡ scaled y x = scaled_zero x y h ∙ sym (scaled_zero y x k) in
    ((eq_exact x y h.0 k.0).1 e, not_T (lt x y) (λ l. <ℤ_irrefl (rw e at ((lt_exact x y h.0 k.0).0 l))))

module _ (s : Bool) where
  inf_below : (y : Float) → T (finite y) → (lt (inf s) y ≡ s) × (lt y (inf s) ≡ not s)
  unfolding lt
  inf_below nan h = absurd h
  inf_below (inf t) h = absurd h
  inf_below (fin t n d) h = (refl, refl)

  inf_unequal : (y : Float) → T (finite y) → T (not (eq (inf s) y)) × T (not (eq y (inf s)))
  unfolding eq
  inf_unequal nan h = absurd h
  inf_unequal (inf t) h = absurd h
  inf_unequal (fin t n d) h = (tt, tt)

inf_inf : (s t : Bool) → (lt (inf s) (inf t) ≡ s && not t) × (eq (inf s) (inf t) ≡ beq s t)
unfolding lt eq
inf_inf s t = (refl, refl)

nan_unordered : (x y : Float) → SomeNan x y → T (not (lt x y)) × T (not (le x y)) × T (not (eq x y)) × T (ne x y)
unfolding le ne is_nan
nan_unordered nan y h = (tt, tt, tt, tt)
nan_unordered (inf s) nan h = (tt, tt, tt, tt)
nan_unordered (inf s) (inf t) h = absurd h
nan_unordered (inf s) (fin t n d) h = absurd h
nan_unordered (fin s m e) nan h = (tt, tt, tt, tt)
nan_unordered (fin s m e) (inf t) h = absurd h
nan_unordered (fin s m e) (fin t n d) h = absurd h

pub ieee_comparisons : IeeeComparisons
unfolding IeeeComparisons le ne
ieee_comparisons = record {
  below = lt_exact;
  equal = eq_exact;
  zeros = zero_comparison;
  infinity = inf_below;
  unequal = inf_unequal;
  infinities = inf_inf;
  unordered = nan_unordered;
  at_most = λ x y. refl;
  differ = λ x y. refl;
}

-- ---- and no others
tested : (a b : Bool) (P : Type 0) → T a ↔ P → T b ↔ P → a ≡ b
tested true true P p q = refl
tested true false P p q = absurd (q.1 (p.0 tt))
tested false true P p q = absurd (p.1 (q.0 tt))
tested false false P p q = refl

refused : (a b : Bool) → T (not a) → T (not b) → a ≡ b
refused a b p q = is_false a p ∙ sym (is_false b q)

module _ (◌≺◌ ◌≼◌ ◌≈◌ ◌≉◌ : Float → Float → Bool) (A : Comparisons ◌≺◌ ◌≼◌ ◌≈◌ ◌≉◌) where
  K : Comparisons lt le eq ne
  unfolding IeeeComparisons
  K = ieee_comparisons

  only_lt : (x y : Float) → ◌≺◌ x y ≡ lt x y
  only_lt =
      every (λ x y. ◌≺◌ x y ≡ lt x y) (λ x y h. refused _ _ (A.unordered x y h).0 (K.unordered x y h).0)
      (λ s y h.
      ((A.infinity s y h).0 ∙ sym (K.infinity s y h).0, (A.infinity s y h).1 ∙ sym (K.infinity s y h).1))
      (λ s t. (A.infinities s t).0 ∙ sym (K.infinities s t).0)
      (λ x y h k. tested _ _ (scaled x y <ℤ scaled y x) (A.below x y h k) (K.below x y h k))

  only_eq : (x y : Float) → ◌≈◌ x y ≡ eq x y
  only_eq =
      every (λ x y. ◌≈◌ x y ≡ eq x y) (λ x y h. refused _ _ (A.unordered x y h).2 (K.unordered x y h).2)
      (λ s y h.
      let p = A.unequal s y h in let q = K.unequal s y h in (refused _ _ p.0 q.0, refused _ _ p.1 q.1))
      (λ s t. (A.infinities s t).1 ∙ sym (K.infinities s t).1)
      (λ x y h k. tested _ _ (scaled x y ≡ scaled y x) (A.equal x y h k) (K.equal x y h k))

pub only_comparisons : OnlyComparisons
unfolding OnlyComparisons le ne
only_comparisons lt' le' eq' ne' A x y =
    let l = only_lt lt' le' eq' ne' A x y in
    let e = only_eq lt' le' eq' ne' A x y in
    (l, A.at_most x y ∙ ap₂ ◌||◌ l e, e, A.differ x y ∙ ap not e)
