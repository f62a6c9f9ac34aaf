-- The operations at values that are not finite and at divisors that are 0: by their clauses. Assumes nothing.
use Prim.Native.Nat.{ℕ, zero, suc, ◌+◌, ◌-◌, ◌*◌, ◌<◌}
use mathlib.Core.Path.{◌≡◌, refl, sym, ◌∙◌}
use mathlib.Core.Logic.{inl, inr}
use mathlib.Core.Bool.{Bool, true, false, not, true≢false}
use native.Mathlib.Nat.{eq-zero-or-pos, mul-pos, zero-lt-suc, zero-mul}
use native.Mathlib.Omega.{arith}
use lib.Dec.{T, ltb, eqb}
use lib.IntN.{ℤ, pos}
use lib.Ieee.{Float, nan, inf, fin, Format, unlike, up, add, sub, mul, div, is_nan}
use lib.Ieee.Bits.{is_false}
use lib.Ieee.Fits.{up_pos}
use lib.Ieee.Scale.{finite}
use lib.Ieee.Positive.{num, den_pos}
use borrow.Author.Tests.{ltb-true, ltb-false}
use Rattle.ieee.specs.Nearest.{sign, TiesToEven, OnlyOne}
use Rattle.ieee.specs.FourOperators.{Sum, FourRound}
use Rattle.ieee.specs.Narrow.{narrowed}
use Rattle.ieee.specs.Root.{rooted}
use Rattle.ieee.specs.Special.{Zero, Nonzero, SomeNan, Arithmetic, IeeeArithmetic, OnlyArithmetic}
use Rattle.ieee.specs.Special.{Roots, Narrowings}
use Rattle.ieee.proofs.FourOperators.{nonzero, four_round}
use Rattle.ieee.proofs.RoundOnly.{only_one}

-- ---- a zero has no digits
no_digits : (n : ℕ) (d : ℤ) → n * up d ≡ 0 → n ≡ 0
no_digits zero d z = refl
no_digits (suc n) d z = absurd (omega (arith, mul-pos (zero-lt-suc n) (up_pos d)))

is_zero : (n : ℕ) (d : ℤ) → n * up d ≡ 0 → eqb n 0 ≡ true
is_zero n d z = rw (no_digits n d z)

is_nonzero : (n : ℕ) (d : ℤ) → 0 < n * up d → eqb n 0 ≡ false
is_nonzero n d h = is_false (eqb n 0) (nonzero n (up d) h)

-- ---- the four operations, by their clauses
module _ (f : Format) where
  nan_sum : (x y : Float) → SomeNan x y → add f x y ≡ nan
  unfolding add is_nan
  nan_sum nan y h = refl
  nan_sum (inf s) nan h = refl
  nan_sum (inf s) (inf t) h = absurd h
  nan_sum (inf s) (fin t n d) h = absurd h
  nan_sum (fin s m e) nan h = refl
  nan_sum (fin s m e) (inf t) h = absurd h
  nan_sum (fin s m e) (fin t n d) h = absurd h

  nan_difference : (x y : Float) → SomeNan x y → sub f x y ≡ nan
  unfolding sub is_nan
  nan_difference nan y h = refl
  nan_difference (inf s) nan h = refl
  nan_difference (inf s) (inf t) h = absurd h
  nan_difference (inf s) (fin t n d) h = absurd h
  nan_difference (fin s m e) nan h = refl
  nan_difference (fin s m e) (inf t) h = absurd h
  nan_difference (fin s m e) (fin t n d) h = absurd h

  nan_product : (x y : Float) → SomeNan x y → mul f x y ≡ nan
  unfolding mul is_nan
  nan_product nan y h = refl
  nan_product (inf s) nan h = refl
  nan_product (inf s) (inf t) h = absurd h
  nan_product (inf s) (fin t n d) h = absurd h
  nan_product (fin s m e) nan h = refl
  nan_product (fin s m e) (inf t) h = absurd h
  nan_product (fin s m e) (fin t n d) h = absurd h

  nan_quotient : (x y : Float) → SomeNan x y → div f x y ≡ nan
  unfolding div is_nan
  nan_quotient nan y h = refl
  nan_quotient (inf s) nan h = refl
  nan_quotient (inf s) (inf t) h = absurd h
  nan_quotient (inf s) (fin t n d) h = absurd h
  nan_quotient (fin s m e) nan h = refl
  nan_quotient (fin s m e) (inf t) h = absurd h
  nan_quotient (fin s m e) (fin t n d) h = absurd h

  module _ (s : Bool) where
    inf_sum : (y : Float) → T (finite y) → (add f (inf s) y ≡ inf s) × (add f y (inf s) ≡ inf s)
    unfolding add
    inf_sum nan h = absurd h
    inf_sum (inf t) h = absurd h
    inf_sum (fin t n d) h = (refl, refl)

    inf_difference : (y : Float) → T (finite y) → (sub f (inf s) y ≡ inf s) × (sub f y (inf s) ≡ inf (not s))
    unfolding sub
    inf_difference nan h = absurd h
    inf_difference (inf t) h = absurd h
    inf_difference (fin t n d) h = (refl, refl)

    inf_product : (y : Float) → Nonzero y →
        (mul f (inf s) y ≡ inf (unlike s (sign y))) × (mul f y (inf s) ≡ inf (unlike (sign y) s))
    unfolding mul
    inf_product nan h = absurd h.0
    inf_product (inf t) h = absurd h.0
    inf_product (fin t n d) h = (rw (is_nonzero n d h.1), rw (is_nonzero n d h.1))

    zero_product : (y : Float) → Zero y → (mul f (inf s) y ≡ nan) × (mul f y (inf s) ≡ nan)
    unfolding mul
    zero_product nan h = absurd h.0
    zero_product (inf t) h = absurd h.0
    zero_product (fin t n d) h = (rw (is_zero n d h.1), rw (is_zero n d h.1))

    inf_quotient : (y : Float) → T (finite y) →
        (div f (inf s) y ≡ inf (unlike s (sign y))) × (div f y (inf s) ≡ fin (unlike (sign y) s) 0 (pos 0))
    unfolding div
    inf_quotient nan h = absurd h
    inf_quotient (inf t) h = absurd h
    inf_quotient (fin t n d) h = (refl, refl)

  sums : (s : Bool) → add f (inf s) (inf s) ≡ inf s
  unfolding add
  sums true = refl
  sums false = refl

  no_sum : (s : Bool) → add f (inf s) (inf (not s)) ≡ nan
  unfolding add
  no_sum true = refl
  no_sum false = refl

  differences : (s : Bool) → sub f (inf s) (inf (not s)) ≡ inf s
  unfolding sub
  differences true = refl
  differences false = refl

  no_difference : (s : Bool) → sub f (inf s) (inf s) ≡ nan
  unfolding sub
  no_difference true = refl
  no_difference false = refl

  products : (s t : Bool) → mul f (inf s) (inf t) ≡ inf (unlike s t)
  unfolding mul
  products s t = refl

  no_quotient : (s t : Bool) → div f (inf s) (inf t) ≡ nan
  unfolding div
  no_quotient s t = refl

  zeros : (x y : Float) → Zero x → Zero y → div f x y ≡ nan
  unfolding div
  zeros nan y h k = absurd h.0
  zeros (inf s) y h k = absurd h.0
  zeros (fin s m e) nan h k = absurd k.0
  zeros (fin s m e) (inf t) h k = absurd k.0
  zeros (fin s m e) (fin t n d) h k = rw (is_zero m e h.1, is_zero n d k.1)

  by_zero : (x y : Float) → Nonzero x → Zero y → div f x y ≡ inf (unlike (sign x) (sign y))
  unfolding div
  by_zero nan y h k = absurd h.0
  by_zero (inf s) y h k = absurd h.0
  by_zero (fin s m e) nan h k = absurd k.0
  by_zero (fin s m e) (inf t) h k = absurd k.0
  by_zero (fin s m e) (fin t n d) h k = rw (is_nonzero m e h.1, is_zero n d k.1)

pub ieee_arithmetic : IeeeArithmetic
unfolding IeeeArithmetic FourRound
ieee_arithmetic f = record {
  rounded = four_round f;
  nans = record { sum = nan_sum f; difference = nan_difference f; product = nan_product f; quotient = nan_quotient f };
  infinities = record {
    sum = inf_sum f;
    difference = inf_difference f;
    product = inf_product f;
    quotient = inf_quotient f;
    sums = sums f;
    differences = differences f;
    products = products f;
  };
  invalid = record {
    sum = no_sum f;
    difference = no_difference f;
    product = zero_product f;
    quotient = no_quotient f;
    zeros = zeros f;
  };
  by_zero = by_zero f;
}

-- ---- every pair of operands
pub every : (P : Float → Float → Type 0) → ((x y : Float) → SomeNan x y → P x y) →
    ((s : Bool) (y : Float) → T (finite y) → P (inf s) y × P y (inf s)) → ((s t : Bool) → P (inf s) (inf t)) →
    ((x y : Float) → T (finite x) → T (finite y) → P x y) → (x y : Float) → P x y
unfolding is_nan
every P a b c d nan y = a nan y tt
every P a b c d (inf s) nan = a (inf s) nan tt
every P a b c d (inf s) (inf t) = c s t
every P a b c d (inf s) (fin t n k) = (b s (fin t n k) tt).0
every P a b c d (fin s m e) nan = a (fin s m e) nan tt
every P a b c d (fin s m e) (inf t) = (b t (fin s m e) tt).1
every P a b c d (fin s m e) (fin t n k) = d (fin s m e) (fin t n k) tt tt

meet : {x y z : Float} → x ≡ z → y ≡ z → x ≡ y
meet p q = p ∙ sym q

both : {v w x y z u : Float} → (v ≡ z) × (w ≡ u) → (x ≡ z) × (y ≡ u) → (v ≡ x) × (w ≡ y)
both p q = (meet p.0 q.0, meet p.1 q.1)

module _ (f : Format) (v w : Float) where
  same : (s : Bool) (a b : ℕ) → 0 < b → TiesToEven f s a b v → TiesToEven f s a b w → v ≡ w
  unfolding OnlyOne
  same s a b B p q = meet (only_one f s a b v B p) (only_one f s a b w B q)

  same_sum : (s : Bool) (a : ℕ) (t : Bool) (b c : ℕ) → 0 < c → Sum f s a t b c v → Sum f s a t b c w → v ≡ w
  same_sum s a t b c C p q = signs s t refl refl
    where
      unlike_signs : ¬ (s ≡ t) → v ≡ w
      unlike_signs g = go (ltb a b) refl (ltb b a) refl
        where
          go : (k : Bool) → ltb a b ≡ k → (l : Bool) → ltb b a ≡ l → v ≡ w
          go true k l m = same t (b - a) c C (p.second g (ltb-true a b k)) (q.second g (ltb-true a b k))
          go false k true m = same s (a - b) c C (p.first g (ltb-true b a m)) (q.first g (ltb-true b a m))
          go false k false m =
              let e : a ≡ b = omega (arith, ltb-false a b k, ltb-false b a m) in
              meet (p.nothing g e) (q.nothing g e)

      signs : (s' t' : Bool) → s ≡ s' → t ≡ t' → v ≡ w
      signs true true g h = same s (a + b) c C (p.like (cc)) (q.like (cc))
      signs true false g h = unlike_signs (λ e. true≢false (cc))
      signs false true g h = unlike_signs (λ e. true≢false (cc))
      signs false false g h = same s (a + b) c C (p.like (cc)) (q.like (cc))

module _ (f : Format) (◌⊕◌ ◌⊖◌ ◌⊗◌ ◌⊘◌ : Float → Float → Float) (A : Arithmetic ◌⊕◌ ◌⊖◌ ◌⊗◌ ◌⊘◌ f) where
  K : Arithmetic (add f) (sub f) (mul f) (div f) f
  unfolding IeeeArithmetic
  K = ieee_arithmetic f

  only_sum : (x y : Float) → ◌⊕◌ x y ≡ add f x y
  only_sum =
      every (λ x y. ◌⊕◌ x y ≡ add f x y) (λ x y h. meet (A.nans.sum x y h) (K.nans.sum x y h))
      (λ s y h. both (A.infinities.sum s y h) (K.infinities.sum s y h))
      infinite
      (λ x y h k.
      same_sum f _ _ _ _ _ _ _ (mul-pos (den_pos x) (den_pos y)) (A.rounded x y h k).sum (K.rounded x y h k).sum)
    where
      infinite : (s t : Bool) → ◌⊕◌ (inf s) (inf t) ≡ add f (inf s) (inf t)
      infinite true true = meet (A.infinities.sums true) (K.infinities.sums true)
      infinite true false = meet (A.invalid.sum true) (K.invalid.sum true)
      infinite false true = meet (A.invalid.sum false) (K.invalid.sum false)
      infinite false false = meet (A.infinities.sums false) (K.infinities.sums false)

  only_difference : (x y : Float) → ◌⊖◌ x y ≡ sub f x y
  only_difference =
      every (λ x y. ◌⊖◌ x y ≡ sub f x y) (λ x y h. meet (A.nans.difference x y h) (K.nans.difference x y h))
      (λ s y h. both (A.infinities.difference s y h) (K.infinities.difference s y h))
      infinite
      (λ x y h k.
      same_sum f _ _ _ _ _ _ _ (mul-pos (den_pos x) (den_pos y))
      (A.rounded x y h k).difference (K.rounded x y h k).difference)
    where
      infinite : (s t : Bool) → ◌⊖◌ (inf s) (inf t) ≡ sub f (inf s) (inf t)
      infinite true true = meet (A.invalid.difference true) (K.invalid.difference true)
      infinite true false = meet (A.infinities.differences true) (K.infinities.differences true)
      infinite false true = meet (A.infinities.differences false) (K.infinities.differences false)
      infinite false false = meet (A.invalid.difference false) (K.invalid.difference false)

  only_product : (x y : Float) → ◌⊗◌ x y ≡ mul f x y
  only_product =
      every (λ x y. ◌⊗◌ x y ≡ mul f x y) (λ x y h. meet (A.nans.product x y h) (K.nans.product x y h))
      (λ s y h. elim (eq-zero-or-pos (num y)) [
        | inl z ↦ both (A.invalid.product s y (h, z)) (K.invalid.product s y (h, z))
        | inr p ↦ both (A.infinities.product s y (h, p)) (K.infinities.product s y (h, p))
      ])
      (λ s t. meet (A.infinities.products s t) (K.infinities.products s t))
      (λ x y h k.
      same f _ _ _ _ _ (mul-pos (den_pos x) (den_pos y)) (A.rounded x y h k).product (K.rounded x y h k).product)

  only_quotient : (x y : Float) → ◌⊘◌ x y ≡ div f x y
  only_quotient =
      every (λ x y. ◌⊘◌ x y ≡ div f x y) (λ x y h. meet (A.nans.quotient x y h) (K.nans.quotient x y h))
      (λ s y h. both (A.infinities.quotient s y h) (K.infinities.quotient s y h))
      (λ s t. meet (A.invalid.quotient s t) (K.invalid.quotient s t))
      (λ x y h k. elim (eq-zero-or-pos (num y)) [
        | inl z ↦ elim (eq-zero-or-pos (num x)) [
          | inl z' ↦ meet (A.invalid.zeros x y (h, z') (k, z)) (K.invalid.zeros x y (h, z') (k, z))
          | inr p ↦ meet (A.by_zero x y (h, p) (k, z)) (K.by_zero x y (h, p) (k, z))
        ]
        | inr p ↦
            same f _ _ _ _ _ (mul-pos p (den_pos x)) ((A.rounded x y h k).quotient p) ((K.rounded x y h k).quotient p)
      ])

  only : (x y : Float) →
      (◌⊕◌ x y ≡ add f x y) × (◌⊖◌ x y ≡ sub f x y) × (◌⊗◌ x y ≡ mul f x y) × (◌⊘◌ x y ≡ div f x y)
  only x y = (only_sum x y, only_difference x y, only_product x y, only_quotient x y)

pub only_arithmetic : OnlyArithmetic
unfolding OnlyArithmetic
only_arithmetic = only

-- ---- the square root and the narrowing
module _ (f : Format) where
  root_zero : (x : Float) → Zero x → rooted f x ≡ x
  unfolding rooted
  root_zero nan h = refl
  root_zero (inf s) h = absurd h.0
  root_zero (fin s m e) h = rw (no_digits m e h.1)

  root_negative : (x : Float) → Nonzero x → sign x ≡ true → rooted f x ≡ nan
  unfolding rooted
  root_negative nan h g = refl
  root_negative (inf s) h g = absurd h.0
  root_negative (fin s zero e) h g = absurd (omega (arith, h.1, zero-mul (up e)))
  root_negative (fin true (suc m) e) h g = refl
  root_negative (fin false (suc m) e) h g = absurd (true≢false (sym g))

  pub roots : Roots f
  unfolding rooted
  roots = record { zero = root_zero; negative = root_negative; infinity = (refl, refl); unknown = refl }

pub narrowings : Narrowings
unfolding narrowed
narrowings = record { infinity = λ s. refl; unknown = refl }
