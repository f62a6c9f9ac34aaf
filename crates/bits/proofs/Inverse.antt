-- A number coprime to n has an inverse modulo n, so multiplying by it modulo n can be undone.
use Rattle.std.proofs.Common.{◌≡◌, ℕ, ◌+◌, ◌-◌, ◌*◌, ◌/◌, ◌%◌, ◌<◌, sym, ap, ◌∙◌, mul_comm, mul-one, mul-add, mul_left_comm, arith}
use native.Mathlib.Nat.{div-add-mod, add-mul-mod_self_left, mul-add-mod_self_left}
use Rattle.bits.specs.Step.{gcd}
use Rattle.bits.proofs.Divisors.{combines}

-- a remainder in a product may be taken before
mod_in : (a b n : ℕ) → a * (b % n) % n ≡ a * b % n
mod_in a b n =
    let cut : n * (a * (b / n)) + a * (b % n) ≡ a * b = omega (arith, ap (λ (z : ℕ). a * z) (div-add-mod b n), mul-add a (n * (b / n)) (b % n), mul_left_comm a n (b / n)) in
    sym (mul-add-mod_self_left n (a * (b / n)) (a * (b % n))) ∙ ap (λ (z : ℕ). z % n) cut

pub inverse : (a n : ℕ) → 0 < n → gcd a n ≡ 1 → (w : ℕ) × (a * w % n ≡ 1 % n)
inverse a n h e =
    let c = combines a n in
    let w = c.x + c.u * (n - 1) in
    let un : c.u * (n - 1) + c.u ≡ n * c.u = omega (arith, mul-add c.u (n - 1) 1, mul-one c.u, ap (λ (z : ℕ). c.u * z) (let s : n - 1 + 1 ≡ n = omega arith in s), mul_comm c.u n) in
    let aw : a * w + a * c.u ≡ a * c.x + n * (a * c.u) =
    omega (arith, mul-add a c.x (c.u * (n - 1)), mul-add a (c.u * (n - 1)) c.u, ap (λ (z : ℕ). a * z) un, mul_left_comm a n c.u) in
    let one : a * w + n * c.y ≡ 1 + n * (c.v + a * c.u) = omega (arith, aw, c.sums, e, mul-add n c.v (a * c.u)) in
    (w, sym (add-mul-mod_self_left (a * w) n c.y) ∙ ap (λ (z : ℕ). z % n) one ∙ add-mul-mod_self_left 1 n (c.v + a * c.u))

-- times a, then times w, is nothing
pub undone : (n a w i : ℕ) → a * w % n ≡ 1 % n → w * (a * i % n) % n ≡ i % n
undone n a w i e =
    mod_in w (a * i) n
    ∙ ap (λ (z : ℕ). z % n) (let s : w * (a * i) ≡ i * (a * w) = simp (mul_comm, mul_left_comm) in s)
    ∙ sym (mod_in i (a * w) n)
    ∙ ap (λ (z : ℕ). i * z % n) e
    ∙ mod_in i 1 n
    ∙ ap (λ (z : ℕ). z % n) (mul-one i)
