-- Each operation hands its exact result to `round`. Assumes nothing.
use mathlib.Core.Path.{◌≡◌, refl, sym, ap, ◌∙◌, subst}
use Prim.Native.Nat.{ℕ, suc, ◌+◌, ◌-◌, ◌*◌, ◌<◌}
use native.Mathlib.Nat.{le_of_lt, le_of_eq, zero-lt-suc, zero-mul, mul-pos}
use native.Mathlib.Omega.{arith}
use mathlib.Core.Bool.{Bool, true, false, not, ◌&&◌, cond}
use lib.Dec.{T, ltb, eqb, lt→ltb, eqb→eq, not_T}
use lib.Arith.{le→nltb}
use lib.IntN.{ℤ, pos, negsuc}
use lib.Ieee.{Float, nan, inf, fin, Format, binary32, binary64, unlike, up, down, round, sum, add, sub, mul, div, of_int}
use lib.Ieee.Bits.{is_true, is_false}
use lib.Ieee.Fits.{down_pos}
use lib.Ieee.Scale.{round_same}
use Rattle.ieee.specs.Nearest.{TiesToEven}
use Rattle.ieee.specs.FourOperators.{Sum, FourRound, IntegersRound}
use Rattle.ieee.proofs.RoundNearest.{ties_to_even}

-- ---- which rounding a sum is
sum_like : (f : Format) (s : Bool) (a : ℕ) (t : Bool) (b c : ℕ) → s ≡ t → sum f s a t b c ≡ round f s (a + b) c
unfolding sum
sum_like f true a true b c e = refl
sum_like f true a false b c e = absurd (subst T e tt)
sum_like f false a true b c e = absurd (subst T (sym e) tt)
sum_like f false a false b c e = refl

unlike_sum : (f : Format) (s : Bool) (a : ℕ) (t : Bool) (b c : ℕ) → ¬ (s ≡ t) → sum f s a t b c ≡ cond (ltb a b) (round f t (b - a) c) (round f (s && ltb b a) (a - b) c)
unfolding sum
unlike_sum f true a true b c d = absurd (d refl)
unlike_sum f true a false b c d = refl
unlike_sum f false a true b c d = refl
unlike_sum f false a false b c d = absurd (d refl)

sum_second : (f : Format) (s : Bool) (a : ℕ) (t : Bool) (b c : ℕ) → ¬ (s ≡ t) → a < b → sum f s a t b c ≡ round f t (b - a) c
sum_second f s a t b c d h = unlike_sum f s a t b c d ∙ ap (λ (x : Bool). cond x (round f t (b - a) c) (round f (s && ltb b a) (a - b) c)) (is_true (ltb a b) (lt→ltb a b h))

sum_first : (f : Format) (s : Bool) (a : ℕ) (t : Bool) (b c : ℕ) → ¬ (s ≡ t) → b < a → sum f s a t b c ≡ round f s (a - b) c
sum_first f s a t b c d h =
    unlike_sum f s a t b c d
    ∙ ap (λ (x : Bool). cond x (round f t (b - a) c) (round f (s && ltb b a) (a - b) c)) (is_false (ltb a b) (le→nltb a b (le_of_lt h)))
    ∙ ap (λ (x : Bool). round f (s && x) (a - b) c) (is_true (ltb b a) (lt→ltb b a h))
    ∙ ap (λ (x : Bool). round f x (a - b) c) (and_true s)
  where
    and_true : (s : Bool) → (s && true) ≡ s
    and_true true = refl
    and_true false = refl

round_nought : (f : Format) → round f false 0 1 ≡ fin false 0 (pos 0)
unfolding round
round_nought binary32 = refl
round_nought binary64 = refl

sum_nothing : (f : Format) (s : Bool) (a : ℕ) (t : Bool) (b c : ℕ) → 0 < c → ¬ (s ≡ t) → a ≡ b → sum f s a t b c ≡ fin false 0 (pos 0)
sum_nothing f s a t b c C d e =
    unlike_sum f s a t b c d
    ∙ ap (λ (x : Bool). cond x (round f t (b - a) c) (round f (s && ltb b a) (a - b) c)) (is_false (ltb a b) (le→nltb a b (le_of_eq (sym e))))
    ∙ ap (λ (x : Bool). round f (s && x) (a - b) c) (is_false (ltb b a) (le→nltb b a (le_of_eq e)))
    ∙ ap (λ (x : Bool). round f x (a - b) c) (and_false s)
    ∙ ap (λ (x : ℕ). round f false x c) (gone a b e)
    ∙ round_same f false 0 c 0 1 C (zero-lt-suc 0) (sym (zero-mul c))
    ∙ round_nought f
  where
    and_false : (s : Bool) → (s && false) ≡ false
    and_false true = refl
    and_false false = refl

    gone : (a b : ℕ) → a ≡ b → a - b ≡ 0
    gone a b e = omega arith

-- ---- a quotient by a number that is not zero
pub nonzero : (n u : ℕ) → 0 < n * u → T (not (eqb n 0))
nonzero n u h = not_T (eqb n 0) (λ (t : T (eqb n 0)). no (n * u) (ap (λ (x : ℕ). x * u) (eqb→eq n 0 t) ∙ zero-mul u) h)
  where
    no : (x : ℕ) → x ≡ 0 → 0 < x → ⊥
    no x e h = omega arith

div_is : (f : Format) (s t : Bool) (m n : ℕ) (e d : ℤ) → 0 < n * up d → div f (fin s m e) (fin t n d) ≡ round f (unlike s t) (m * up e * down d) (n * up d * down e)
unfolding div
div_is f s t m n e d h = ap (λ (x : Bool). cond x (cond (eqb m 0) nan (inf (unlike s t))) (round f (unlike s t) (m * up e * down d) (n * up d * down e))) (is_false (eqb n 0) (nonzero n (up d) h))

mul_is : (f : Format) (s t : Bool) (m n : ℕ) (e d : ℤ) → mul f (fin s m e) (fin t n d) ≡ round f (unlike s t) (m * up e * (n * up d)) (down e * down d)
unfolding mul
mul_is f s t m n e d = refl

add_is : (f : Format) (s t : Bool) (m n : ℕ) (e d : ℤ) → add f (fin s m e) (fin t n d) ≡ sum f s (m * up e * down d) t (n * up d * down e) (down e * down d)
unfolding add
add_is f s t m n e d = refl

sub_is : (f : Format) (s t : Bool) (m n : ℕ) (e d : ℤ) →
    sub f (fin s m e) (fin t n d) ≡ sum f s (m * up e * down d) (not t) (n * up d * down e) (down e * down d)
unfolding sub
sub_is f s t m n e d = refl

by : (f : Format) (s : Bool) (a b : ℕ) (v : Float) → 0 < b → v ≡ round f s a b → TiesToEven f s a b v
by f s a b v B e = subst (λ (x : Float). TiesToEven f s a b x) (sym e) (ties_to_even f s a b B)

as_sum : (f : Format) (s : Bool) (a : ℕ) (t : Bool) (b c : ℕ) (v : Float) →
    0 < c → v ≡ sum f s a t b c → Sum f s a t b c v
as_sum f s a t b c v C is = record {
  like = λ g. by f s (a + b) c v C (is ∙ sum_like f s a t b c g);
  first = λ g l. by f s (a - b) c v C (is ∙ sum_first f s a t b c g l);
  second = λ g l. by f t (b - a) c v C (is ∙ sum_second f s a t b c g l);
  nothing = λ g l. is ∙ sum_nothing f s a t b c C g l;
}

pub four_round : FourRound
unfolding FourRound
four_round f nan y h k = absurd h
four_round f (inf s) y h k = absurd h
four_round f (fin s m e) nan h k = absurd k
four_round f (fin s m e) (inf t) h k = absurd k
four_round f (fin s m e) (fin t n d) h k =
    let x = fin s m e in
    let y = fin t n d in
    let a = m * up e * down d in
    let b = n * up d * down e in
    let c = down e * down d in
    let C : 0 < c = mul-pos (down_pos e) (down_pos d) in
    record {
      sum = as_sum f s a t b c (add f x y) C (add_is f s t m n e d);
      difference = as_sum f s a (not t) b c (sub f x y) C (sub_is f s t m n e d);
      product = by f (unlike s t) (m * up e * (n * up d)) c (mul f x y) C (mul_is f s t m n e d);
      quotient = λ g. by f (unlike s t) a b (div f x y) (mul-pos g (down_pos e)) (div_is f s t m n e d g);
    }

pub integers_round : IntegersRound
unfolding IntegersRound of_int
integers_round f (pos n) = ties_to_even f false n 1 (zero-lt-suc 0)
integers_round f (negsuc n) = ties_to_even f true (suc n) 1 (zero-lt-suc 0)
