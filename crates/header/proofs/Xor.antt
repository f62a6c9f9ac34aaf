-- Laws of the sum of polynomials. Assumes nothing.
use Prim.Native.Nat.{ℕ, zero, suc, ◌+◌, ◌-◌, ◌*◌, ◌/◌, ◌%◌, ◌^◌, ◌≤◌, ◌<◌}
use mathlib.Core.Path.{◌≡◌, refl, sym, ap, ap₂, ◌∙◌}
use native.Mathlib.Nat.{pow-suc, div-add-mod'}
use native.Mathlib.Omega.{arith}
use lib.Arith.{bin_ind}
use lib.Pow.{pow_pos}
use lib.Bits.{bit_xor, differ, xor_step, xor_zero_r, xor_comm, xor_self, xor_lt, xor_block, xor_shifted, xor_shr, xor_mod}
use Rattle.header.specs.Poly.{◌⊕◌}

differ_assoc : (x y z : ℕ) → x < 2 → y < 2 → z < 2 → differ (differ x y) z ≡ differ x (differ y z)
differ_assoc zero y z hx hy hz = refl
differ_assoc (suc zero) zero z hx hy hz = refl
differ_assoc (suc zero) (suc zero) zero hx hy hz = refl
differ_assoc (suc zero) (suc zero) (suc zero) hx hy hz = refl
differ_assoc (suc zero) (suc zero) (suc (suc z)) hx hy hz = absurd (omega arith)
differ_assoc (suc zero) (suc (suc y)) z hx hy hz = absurd (omega arith)
differ_assoc (suc (suc x)) y z hx hy hz = absurd (omega arith)

half : (a b : ℕ) → bit_xor a b / 2 ≡ bit_xor (a / 2) (b / 2)
half a b = xor_shr a b 1

odd : (a b : ℕ) → bit_xor a b % 2 ≡ differ (a % 2) (b % 2)
odd a b = omega (arith, xor_step a b, half a b, div-add-mod' (bit_xor a b) 2)

pub ⊕-assoc : (a b c : ℕ) → a ⊕ b ⊕ c ≡ a ⊕ (b ⊕ c)
unfolding ◌⊕◌
⊕-assoc =
    bin_ind (λ (a : ℕ). (b c : ℕ) → bit_xor (bit_xor a b) c ≡ bit_xor a (bit_xor b c)) (λ b c. refl)
    (λ a ih b c.
    xor_step (bit_xor a b) c
    ∙ ap₂ (λ (h d : ℕ). bit_xor h (c / 2) * 2 + differ d (c % 2)) (half a b) (odd a b)
    ∙ ap₂ (λ (h d : ℕ). h * 2 + d) (ih (b / 2) (c / 2)) (differ_assoc (a % 2) (b % 2) (c % 2) (omega arith) (omega arith) (omega arith))
    ∙ sym (ap₂ (λ (h d : ℕ). bit_xor (a / 2) h * 2 + differ (a % 2) d) (half b c) (odd b c))
    ∙ sym (xor_step a (bit_xor b c)))

pub ⊕-comm : (a b : ℕ) → a ⊕ b ≡ b ⊕ a
unfolding ◌⊕◌
⊕-comm a b = xor_comm a b

pub ⊕-left-comm : (a b c : ℕ) → a ⊕ (b ⊕ c) ≡ b ⊕ (a ⊕ c)
⊕-left-comm a b c = sym (⊕-assoc a b c) ∙ ap (λ (t : ℕ). t ⊕ c) (⊕-comm a b) ∙ ⊕-assoc b a c

pub ⊕-self : (a : ℕ) → a ⊕ a ≡ 0
unfolding ◌⊕◌
⊕-self a = xor_self a

pub zero-⊕ : (a : ℕ) → 0 ⊕ a ≡ a
unfolding ◌⊕◌
zero-⊕ a = refl

pub ⊕-zero : (a : ℕ) → a ⊕ 0 ≡ a
unfolding ◌⊕◌
⊕-zero a = xor_zero_r a

-- a sum is its own way back
pub ⊕-back : (a b : ℕ) → a ⊕ (a ⊕ b) ≡ b
⊕-back a b = sym (⊕-assoc a a b) ∙ ap (λ (t : ℕ). t ⊕ b) (⊕-self a) ∙ zero-⊕ b

pub ruleset xors = (⊕-assoc, ⊕-comm, ⊕-left-comm, ⊕-self, ⊕-back, zero-⊕, ⊕-zero)

pub ⊕-lt : (k : ℕ) {a b : ℕ} → a < 2 ^ k → b < 2 ^ k → a ⊕ b < 2 ^ k
unfolding ◌⊕◌
⊕-lt k {a} {b} ha hb = xor_lt k a b ha hb

-- shifted alike
pub ⊕-shift : (k a b : ℕ) → (a ⊕ b) * 2 ^ k ≡ a * 2 ^ k ⊕ b * 2 ^ k
unfolding ◌⊕◌
⊕-shift k a b =
    let e : (n : ℕ) → n * 2 ^ k + 0 ≡ n * 2 ^ k = λ n. omega arith in
    sym (ap₂ bit_xor (sym (e a)) (sym (e b)) ∙ xor_block k a b 0 0 (pow_pos k) (pow_pos k) ∙ e (bit_xor a b))

pub ⊕-twice : (a b : ℕ) → (a ⊕ b) * 2 ≡ a * 2 ⊕ b * 2
⊕-twice a b = ⊕-shift 1 a b

-- apart: the sum of numbers
pub ⊕-apart : (k a b : ℕ) → b < 2 ^ k → a * 2 ^ k ⊕ b ≡ a * 2 ^ k + b
unfolding ◌⊕◌
⊕-apart k a b h = xor_shifted a k b h

pub ⊕-block : (k a b r s : ℕ) → r < 2 ^ k → s < 2 ^ k → (a * 2 ^ k + r) ⊕ (b * 2 ^ k + s) ≡ (a ⊕ b) * 2 ^ k + (r ⊕ s)
unfolding ◌⊕◌
⊕-block k a b r s hr hs = xor_block k a b r s hr hs

-- terms x^k on both sides strike each other out
pub ⊕-top : (k : ℕ) {a b : ℕ} → 2 ^ k ≤ a → a < 2 ^ suc k → 2 ^ k ≤ b → b < 2 ^ suc k → a ⊕ b < 2 ^ k
⊕-top k {a} {b} la ha lb hb =
    let e = pow-suc 2 k in
    let pa : a ≡ 1 * 2 ^ k + (a - 2 ^ k) = omega arith in
    let pb : b ≡ 1 * 2 ^ k + (b - 2 ^ k) = omega arith in
    let q = ap₂ ◌⊕◌ pa pb ∙ ⊕-block k 1 1 (a - 2 ^ k) (b - 2 ^ k) (omega arith) (omega arith) in
    let l : (a - 2 ^ k) ⊕ (b - 2 ^ k) < 2 ^ k = ⊕-lt k (omega arith) (omega arith) in
    omega (arith, rw (⊕-self 1) at q)

-- and a term on one side stays
pub ⊕-stays : (k : ℕ) {a b : ℕ} → a ⊕ b < 2 ^ k → b < 2 ^ k → a < 2 ^ k
⊕-stays k {a} {b} h hb =
    let e : a ⊕ b ⊕ b ≡ a = simp xors in
    rw e at (⊕-lt k h hb)

-- the lowest coefficient
pub ⊕-lowest : (a b : ℕ) → (a ⊕ b) % 2 ≡ a % 2 ⊕ b % 2
unfolding ◌⊕◌
⊕-lowest a b = xor_mod a b 1
