-- The search for the step ends at n + 1 at the latest, at the first number that is coprime to n.
use Rattle.std.proofs.Common.{◌≡◌, ℕ, zero, suc, ◌+◌, ◌^◌, ◌<◌, ◌≤◌, Bool, true, false, cond, eqb, refl, ⊎_elim, eq-or-lt_of_le, arith, eqb-true, le-leb}
use native.Mathlib.Decide.{dec_lt}
use borrow.Author.Tests.{eqb-false, lt-leb}
use Rattle.bits.specs.Step.{gcd, first_from, start_of, step_of, Coprime, First, FirstCoprime}
use Rattle.bits.proofs.Divisors.{coprime_gcd, gcd_coprime, one_coprime, next_coprime}
use Rattle.bits.proofs.Rounding.{start_le}

found : (k n a : ℕ) → a ≤ n + 1 → n + 1 < a + k → First a n (first_from k n a) × (first_from k n a ≤ n + 1)
unfolding first_from
found zero n a h hk = absurd (omega arith)
found (suc k) n a h hk = go (eqb (gcd a n) 1) refl (λ b. found k n (suc a) b (omega arith))
  where
    go : (t : Bool) → eqb (gcd a n) 1 ≡ t → (suc a ≤ n + 1 → First (suc a) n (first_from k n (suc a)) × (first_from k n (suc a) ≤ n + 1))
        → First a n (cond t a (first_from k n (suc a))) × (cond t a (first_from k n (suc a)) ≤ n + 1)
    go true e f = (record { from = omega arith; coprime = coprime_gcd a n (eqb-true (gcd a n) 1 e); none_before = λ b u v. absurd (omega arith) }, h)
    go false e f =
        let not : Coprime a n → ⊥ = λ p. eqb-false (gcd a n) 1 e (gcd_coprime a n p) in
        let here : a ≡ n + 1 → ⊥ = λ q. not (rw q (next_coprime n)) in
        let r = f (omega arith) in (
          record {
            from = omega (arith, r.0.from);
            coprime = r.0.coprime;
            none_before = λ b u v p. ⊎_elim (λ q. not (rw q p)) (λ q. r.0.none_before b q v p) (eq-or-lt_of_le u);
          },
          r.1,
        )

pub step_small : (n : ℕ) → n ≤ 2 → step_of n ≡ 1
unfolding step_of
step_small n h = rw (le-leb n 2 h)

module _ (n : ℕ) (hn : n ≤ 2 ^ 52) where
  step_found : 2 < n → First (start_of n) n (step_of n) × (step_of n ≤ n + 1)
  unfolding step_of
  step_found h = rw (lt-leb n 2 h) (found (n + 2) n (start_of n) (omega (arith, start_le n (omega arith) hn)) (omega arith))

  pub step_from : 2 < n → start_of n ≤ step_of n
  step_from h = (step_found h).0.from

  -- for every n
  pub step_good : Coprime (step_of n) n × (step_of n ≤ n + 1)
  step_good = elim (dec_lt 2 n) [ yes h ↦ ((step_found h).0.coprime, (step_found h).1) | no h ↦ rw (step_small n (omega arith)) (one_coprime n, omega arith) ]

  -- what the search passes is below the step, and where it stops is the step
  pub passed : (a : ℕ) → a ≤ step_of n → (gcd a n ≡ 1 → ⊥) → a < step_of n
  passed a u f = let ne : a ≡ step_of n → ⊥ = λ e. f (gcd_coprime a n (rw e step_good.0)) in omega arith

  pub stopped : (a : ℕ) → 2 < n → start_of n ≤ a → a ≤ step_of n → gcd a n ≡ 1 → a ≡ step_of n
  stopped a h u v e = let not : a < step_of n → ⊥ = λ l. (step_found h).0.none_before a u l (coprime_gcd a n e) in omega arith

pub first_coprime : FirstCoprime
unfolding FirstCoprime
first_coprime n h hn = (step_found n hn h).0

-- what the check uses of the search
pub ruleset searching = (step_small, step_from, step_good, passed, stopped)
