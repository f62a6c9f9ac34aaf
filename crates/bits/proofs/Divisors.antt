-- Euclid's steps give the greatest common divisor: it divides both, what divides both divides it, and it is a whole combination of both.
use Rattle.std.proofs.Common.{◌≡◌, ℕ, zero, suc, ◌+◌, ◌*◌, ◌/◌, ◌%◌, ◌<◌, sym, refl, ap, ◌∙◌, subst, mod-lt, mul_assoc, add-mul, mul-zero, mul-one, mul-add, arith}
use Prim.Native.Nat.{◌∣◌}
use native.Mathlib.Nat.{div-add-mod, dvd_refl, dvd-zero, dvd-mod_iff, dvd-add_iff_right, eq-one_of_dvd-one}
use Rattle.bits.specs.Step.{gcd_in, gcd, Coprime}

-- ---- one step, and what every step keeps
enough : (k l a b : ℕ) → b < k → b < l → gcd_in k a b ≡ gcd_in l a b
unfolding gcd_in
enough zero l a b h h' = absurd (omega arith)
enough (suc k) zero a b h h' = absurd (omega arith)
enough (suc k) (suc l) a zero h h' = refl
enough (suc k) (suc l) a (suc b) h h' = let r : a % suc b < suc b = mod-lt a (omega arith) in enough k l (suc b) (a % suc b) (omega arith) (omega arith)

pub gcd_end : (a : ℕ) → gcd a 0 ≡ a
unfolding gcd gcd_in
gcd_end a = refl

pub gcd_step : (a b : ℕ) → 0 < b → gcd a b ≡ gcd b (a % b)
unfolding gcd gcd_in
gcd_step a zero h = absurd (omega arith)
gcd_step a (suc b) h = enough (suc b) (suc (a % suc b)) (suc b) (a % suc b) (mod-lt a (omega arith)) (omega arith)

module _ (P : ℕ → ℕ → ℕ → Type 0) (end : (a : ℕ) → P a 0 a) (step : (a b g : ℕ) → P b (a % b) g → P a b g) where
  by_steps : (k a b : ℕ) → b < k → P a b (gcd_in k a b)
  unfolding gcd_in
  by_steps zero a b h = absurd (omega arith)
  by_steps (suc k) a zero h = end a
  by_steps (suc k) a (suc b) h = step a (suc b) (gcd_in k (suc b) (a % suc b)) (by_steps k (suc b) (a % suc b) (let r : a % suc b < suc b = mod-lt a (omega arith) in omega arith))

  gcd_by : (a b : ℕ) → P a b (gcd a b)
  unfolding gcd
  gcd_by a b = by_steps (suc b) a b (omega arith)

-- ---- divisors
pub gcd_divides : (a b : ℕ) → (gcd a b ∣ a) × (gcd a b ∣ b)
gcd_divides = gcd_by (λ a b g. (g ∣ a) × (g ∣ b)) (λ a. (dvd_refl a, dvd-zero a)) (λ a b g h. ((dvd-mod_iff g h.0).0 h.1, h.0))

pub divides_gcd : (d a b : ℕ) → d ∣ a → d ∣ b → d ∣ gcd a b
divides_gcd d = gcd_by (λ a b g. d ∣ a → d ∣ b → d ∣ g) (λ a h h'. h) (λ a b g f h h'. f h' ((dvd-mod_iff d h').1 h))

pub coprime_gcd : (a n : ℕ) → gcd a n ≡ 1 → Coprime a n
coprime_gcd a n e d h h' = eq-one_of_dvd-one (subst (λ (g : ℕ). d ∣ g) e (divides_gcd d a n h h'))

pub gcd_coprime : (a n : ℕ) → Coprime a n → gcd a n ≡ 1
gcd_coprime a n f = f (gcd a n) (gcd_divides a n).0 (gcd_divides a n).1

pub one_coprime : (n : ℕ) → Coprime 1 n
one_coprime n d h h' = eq-one_of_dvd-one h

pub next_coprime : (n : ℕ) → Coprime (n + 1) n
next_coprime n d h h' = eq-one_of_dvd-one ((dvd-add_iff_right d h').1 h)

-- ---- g is a whole combination of a and b, with the negative parts moved to the right
pub record Combines (a b g : ℕ) : Type 0 where
  pub x : ℕ
  pub y : ℕ
  pub u : ℕ
  pub v : ℕ
  pub sums : a * x + b * y ≡ g + (a * u + b * v)

again : (a b g : ℕ) → Combines b (a % b) g → Combines a b g
again a b g c =
    let q = a / b in
    let split : (z : ℕ) → a * z ≡ b * (q * z) + a % b * z =
    λ z. ap (λ (t : ℕ). t * z) (sym (div-add-mod a b)) ∙ add-mul (b * q) (a % b) z ∙ ap (λ (t : ℕ). t + a % b * z) (mul_assoc b q z) in
    record {
      x = c.y;
      y = c.x + q * c.v;
      u = c.v;
      v = c.u + q * c.y;
      sums = omega (arith, split c.y, split c.v, mul-add b c.x (q * c.v), mul-add b c.u (q * c.y), c.sums);
    }

pub combines : (a b : ℕ) → Combines a b (gcd a b)
combines = gcd_by Combines (λ a. record { x = 1; y = 0; u = 0; v = 0; sums = omega (arith, mul-one a, mul-zero a) }) again
