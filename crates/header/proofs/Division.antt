-- Multiples, and the division: there is a remainder, and one only. Assumes nothing.
use Prim.Native.Nat.{ℕ, zero, suc, ◌+◌, ◌*◌, ◌^◌, ◌≤◌, ◌<◌}
use mathlib.Core.Path.{◌≡◌, refl, sym, ap, ap₂, subst, ◌∙◌}
use mathlib.Core.Bool.{Bool, true, false, cond}
use mathlib.Core.List.{List, [], ◌∷◌}
use native.Mathlib.Nat.{pow-suc, mul_assoc, add-suc}
use native.Mathlib.Omega.{arith}
use lib.Dec.{leb, lit<, lit≤}
use lib.Pow.{pow_pos, pow-add}
use borrow.Author.Tests.{leb-true, leb-false}
use Rattle.header.specs.Poly.{◌⊕◌, times, Multiple, G, Remainder, divide, Division}
use Rattle.header.proofs.Xor.{xors, ⊕-lt, ⊕-twice, ⊕-top, ⊕-stays, ⊕-comm, ⊕-self, zero-⊕, ⊕-zero}

pub none : (g : ℕ) → Multiple g 0
unfolding times
none g = record { quotient = []; is = refl }

pub self : (g : ℕ) → Multiple g g
unfolding times
self g = record { quotient = true ∷ []; is = sym (⊕-zero g) }

pub twice : {g p : ℕ} → Multiple g p → Multiple g (p * 2)
unfolding times
twice {g} m = record { quotient = false ∷ m.quotient; is = ap (λ (n : ℕ). n * 2) m.is ∙ sym (zero-⊕ (times m.quotient g * 2)) }

pub shifted : {g p : ℕ} (k : ℕ) → Multiple g p → Multiple g (p * 2 ^ k)
shifted {g} {p} zero m = subst (Multiple g) (let e : p ≡ p * 1 = omega arith in e) m
shifted {g} {p} (suc k) m = subst (Multiple g) (mul_assoc p (2 ^ k) 2 ∙ ap (λ (n : ℕ). p * n) (sym (pow-suc 2 k))) (twice (shifted k m))

-- the sum of two products by g
both : List Bool → List Bool → List Bool
both [] r = r
both (b ∷ q) [] = b ∷ q
both (true ∷ q) (true ∷ r) = false ∷ both q r
both (true ∷ q) (false ∷ r) = true ∷ both q r
both (false ∷ q) (true ∷ r) = true ∷ both q r
both (false ∷ q) (false ∷ r) = false ∷ both q r

cross : (a b c s t u : ℕ) → a ⊕ b ≡ c → u ≡ s ⊕ t → c ⊕ u * 2 ≡ a ⊕ s * 2 ⊕ (b ⊕ t * 2)
cross a b c s t u e f = rw (← e, f) (simp (⊕-twice, xors))

times_both : (g : ℕ) (q r : List Bool) → times (both q r) g ≡ times q g ⊕ times r g
unfolding times both
times_both g [] r = sym (zero-⊕ (times r g))
times_both g (b ∷ q) [] = sym (⊕-zero (times (b ∷ q) g))
times_both g (true ∷ q) (true ∷ r) = cross g g 0 _ _ _ (⊕-self g) (times_both g q r)
times_both g (true ∷ q) (false ∷ r) = cross g 0 g _ _ _ (⊕-zero g) (times_both g q r)
times_both g (false ∷ q) (true ∷ r) = cross 0 g g _ _ _ (zero-⊕ g) (times_both g q r)
times_both g (false ∷ q) (false ∷ r) = cross 0 0 0 _ _ _ (⊕-zero 0) (times_both g q r)

pub sum : {g p r : ℕ} → Multiple g p → Multiple g r → Multiple g (p ⊕ r)
sum {g} m n = record { quotient = both m.quotient n.quotient; is = ap₂ ◌⊕◌ m.is n.is ∙ sym (times_both g m.quotient n.quotient) }

-- the degree of a multiple is that of g at least, unless it is 0
times_small : (g n : ℕ) (q : List Bool) → 2 ^ n ≤ g → g < 2 ^ suc n → times q g < 2 ^ n → times q g ≡ 0
unfolding times
times_small g n [] lo hi h = refl
times_small g n (true ∷ q) lo hi h =
    let e = pow-suc 2 n in
    let t : times q g * 2 < 2 ^ suc n = ⊕-stays (suc n) {a = times q g * 2} {b = g} (rw (⊕-comm (times q g * 2) g) (omega arith)) hi in
    let z = times_small g n q lo hi (omega arith) in
    absurd (let l : g < 2 ^ n = ⊕-stays n h (omega (arith, pow_pos n)) in omega arith)
times_small g n (false ∷ q) lo hi h =
    let h' : times q g * 2 < 2 ^ n = rw (zero-⊕ (times q g * 2)) at h in
    zero-⊕ (times q g * 2) ∙ omega (arith, times_small g n q lo hi (omega arith))

pub small : {g p : ℕ} (n : ℕ) → 2 ^ n ≤ g → g < 2 ^ suc n → Multiple g p → p < 2 ^ n → p ≡ 0
small {g} {p} n lo hi m h = m.is ∙ times_small g n m.quotient lo hi (subst (λ (t : ℕ). t < 2 ^ n) m.is h)

-- ---- the remainder
pub unique : {p r s : ℕ} → Remainder p r → Remainder p s → r ≡ s
unique {p} {r} {s} a b =
    let e : p ⊕ r ⊕ (p ⊕ s) ≡ r ⊕ s = simp xors in
    let z : r ⊕ s ≡ 0 = small 16 (lit≤ tt) (lit< tt) (subst (Multiple G) e (sum a.rest b.rest)) (⊕-lt 16 a.small b.small) in
    let w : r ⊕ s ⊕ s ≡ r = simp xors in
    sym w ∙ ap (λ (t : ℕ). t ⊕ s) z ∙ zero-⊕ s

-- G x^n begins at x^(16 + n)
term : (n : ℕ) → (2 ^ (16 + n) ≤ G * 2 ^ n) × (G * 2 ^ n < 2 ^ suc (16 + n))
term n = (omega (arith, pow-add 2 16 n), omega (arith, pow-add 2 16 n, pow-suc 2 (16 + n), pow_pos n))

pub divided : (n p : ℕ) → p < 2 ^ (16 + n) → Remainder p (divide n p)
unfolding divide
divided zero p h = record { small = h; rest = subst (Multiple G) (sym (⊕-self p)) (none G) }
divided (suc n) p h = go (leb (2 ^ (16 + n)) p) refl (divided n)
  where
    go : (b : Bool) → leb (2 ^ (16 + n)) p ≡ b → ((r : ℕ) → r < 2 ^ (16 + n) → Remainder r (divide n r)) → Remainder p (divide n (cond b (p ⊕ G * 2 ^ n) p))
    go true e rec =
        let t = rec (p ⊕ G * 2 ^ n) (⊕-top (16 + n) (leb-true _ _ e) (subst (λ (k : ℕ). p < 2 ^ k) (add-suc 16 n) h) (term n).0 (term n).1) in
        let m : Multiple G (G * 2 ^ n) = shifted n (self G) in
        let q : p ⊕ G * 2 ^ n ⊕ divide n (p ⊕ G * 2 ^ n) ⊕ G * 2 ^ n ≡ p ⊕ divide n (p ⊕ G * 2 ^ n) = simp xors in
        record { small = t.small; rest = subst (Multiple G) q (sum t.rest m) }
    go false e rec = rec p (leb-false _ _ e)

pub division : Division
division = record { exists = divided; unique = λ p r s a b. unique a b }
