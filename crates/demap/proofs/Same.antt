-- Two floats of the format that are equal and not zero are one. Assumes nothing.
use Prim.Native.Nat.{ℕ, ◌*◌, ◌^◌, ◌<◌}
use mathlib.Core.Path.{◌≡◌, refl, sym, ap, ◌∙◌}
use mathlib.Core.Bool.{Bool, true, false, not, ◌||◌, beq}
use native.Mathlib.Nat.{eq_of_mul-eq-mul_right, zero-mul}
use native.Mathlib.Omega.{arith}
use lib.Dec.{T, eqb, eqb→eq}
use lib.Ieee.{Float, nan, inf, fin, binary32, up, down, level, eq, ne, fits, of_bits}
use lib.Ieee.Fits.{and_l, and_r, down_pos}
use borrow.Author.Tests.{eq-eqb}
use Rattle.ieee.specs.Num.{zero32}
use Rattle.ieee.proofs.RoundNearest.{steps_of, same_value}

alike : (s t : Bool) → T (beq s t) → s ≡ t
alike true true h = refl
alike true false h = absurd h
alike false true h = absurd h
alike false false h = refl

zero_refused : (s : Bool) (a b : ℕ) → a ≡ 0 → b ≡ 0 → T (not (level s a false b)) → ⊥
zero_refused true a b p q h = rw (eq-eqb a b (omega arith), eq-eqb a 0 p) at h
zero_refused false a b p q h = rw (eq-eqb a b (omega arith)) at h

-- x / e = y / d = N / P
crossed : (x e y d N P : ℕ) → 0 < e → x * d ≡ y * e → x * P ≡ N * e → y * P ≡ N * d
crossed x e y d N P E h k = eq_of_mul-eq-mul_right e E (y * P) (N * d) (omega (arith, ap (λ (z : ℕ). z * P) h, ap (λ (z : ℕ). z * d) k))

pub same_float : (x y : Float) → T (fits binary32 x) → T (fits binary32 y) → T (eq x y) → T (ne x zero32) → x ≡ y
unfolding ne eq of_bits
same_float nan y p q h n = absurd h
same_float (inf s) nan p q h n = absurd h
same_float (inf s) (inf t) p q h n = ap inf (alike s t h)
same_float (inf s) (fin t k d) p q h n = absurd h
same_float (fin s m e) nan p q h n = absurd h
same_float (fin s m e) (inf t) p q h n = absurd h
same_float (fin s m e) (fin t k d) p q h n =
    let r = steps_of binary32 (fin s m e) (p, tt) in
    let v = crossed (m * up e) (down e) (k * up d) (down d) (r.m * 2 ^ r.j) (2 ^ 149) (down_pos e) (eqb→eq a b (and_l (eqb a b) (beq s t || eqb a 0) h)) r.value.1 in
    same_value binary32 (fin s m e) (fin t k d) s (r.m * 2 ^ r.j) p q r.value (sym (alike s t signs), v)
  where
    a : ℕ
    a = m * up e * down d

    b : ℕ
    b = k * up d * down e

    signs : T (beq s t)
    signs = go (beq s t) (eqb a 0) (eqb→eq a 0) (and_r (eqb a b) (beq s t || eqb a 0) h)
      where
        go : (x y : Bool) → (T y → a ≡ 0) → T (x || y) → T x
        go true y f u = tt
        go false true f u =
            let z : m * up e ≡ 0 = eq_of_mul-eq-mul_right (down d) (down_pos d) (m * up e) 0 (f tt ∙ sym (zero-mul (down d))) in
            absurd (zero_refused s (m * up e * 1) (0 * 1 * down e) (omega arith) (omega arith) n)
        go false false f u = u
