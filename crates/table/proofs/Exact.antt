-- The table is exact: true of the first true of any list of tests. Assumes nothing.
use Prim.Native.Nat.{ℕ, zero, suc, ◌+◌, ◌<◌, ◌≤◌}
use mathlib.Core.Path.{◌≡◌, refl, sym, ◌∙◌}
use mathlib.Core.Bool.{Bool, true, false, cond}
use mathlib.Core.List.{List, [], ◌∷◌}
use mathlib.Core.Logic.{◌⊎◌, inl, inr}
use native.Mathlib.Omega.{arith}
use native.Mathlib.Nat.{not-suc-le-zero}
use lib.ListN.{get_or}
use lib.Ieee.{Float}
use Rattle.refine.specs.Refine.{Burst}
use Rattle.table.specs.Refusals.{refusal_of}
use Rattle.table.specs.Table.{rows, First, Exact}
use Rattle.std.proofs.lemmas.Bool.{true≢false}

-- the number of the first true test, where the first test has the number n, or 0
abbrev numbered : ℕ → List Bool → ℕ
numbered n [] = 0
numbered n (t ∷ ts) = cond t n (numbered (suc n) ts)

-- a number that is given is none of those before n
at_least : (n : ℕ) (ts : List Bool) → (numbered n ts ≡ 0) ⊎ (n ≤ numbered n ts)
at_least n [] = inl refl
at_least n (true ∷ ts) = inr (omega arith)
at_least n (false ∷ ts) = further (at_least (suc n) ts)
  where
    further : (numbered (suc n) ts ≡ 0) ⊎ (suc n ≤ numbered (suc n) ts) → (numbered (suc n) ts ≡ 0) ⊎ (n ≤ numbered (suc n) ts)
    further (inl e) = inl e
    further (inr h) = inr (omega arith)

pub first_none : {k : ℕ} → First [] k → ⊥
first_none f = true≢false (sym f.here)

pub next : {ts : List Bool} {k : ℕ} → First ts k → First (false ∷ ts) (suc k)
next {ts} {k} f = record { here = f.here; above = before }
  where
    before : (i : ℕ) → i < suc k → get_or (false ∷ ts) i false ≡ false
    before zero h = refl
    before (suc i) h = f.above i (omega arith)

pub rest : {ts : List Bool} {k : ℕ} → First (false ∷ ts) (suc k) → First ts k
rest f = record { here = f.here; above = λ i h. f.above (suc i) (omega arith) }

first_of : (n : ℕ) (ts : List Bool) (k : ℕ) → 1 ≤ n → numbered n ts ≡ n + k → First ts k
first_of n [] k h e = absurd (omega arith)
first_of n (true ∷ ts) zero h e = record { here = refl; above = λ i b. absurd (not-suc-le-zero b) }
first_of n (true ∷ ts) (suc k) h e = absurd (omega arith)
first_of n (false ∷ ts) zero h e = absurd (beyond (at_least (suc n) ts))
  where
    beyond : (numbered (suc n) ts ≡ 0) ⊎ (suc n ≤ numbered (suc n) ts) → ⊥
    beyond (inl z) = omega arith
    beyond (inr b) = omega arith
first_of n (false ∷ ts) (suc k) h e = next (first_of (suc n) ts k (omega arith) (omega arith))

of_first : (n : ℕ) (ts : List Bool) (k : ℕ) → First ts k → numbered n ts ≡ n + k
of_first n [] k f = absurd (first_none f)
of_first n (true ∷ ts) zero f = omega arith
of_first n (true ∷ ts) (suc k) f = absurd (true≢false (f.above 0 (omega arith)))
of_first n (false ∷ ts) zero f = absurd (true≢false (sym f.here))
of_first n (false ∷ ts) (suc k) f = of_first (suc n) ts k (rest f) ∙ omega arith

none_of : (n : ℕ) (ts : List Bool) → 1 ≤ n → numbered n ts ≡ 0 → (k : ℕ) → get_or ts k false ≡ false
none_of n [] h e k = refl
none_of n (true ∷ ts) h e k = absurd (omega arith)
none_of n (false ∷ ts) h e zero = refl
none_of n (false ∷ ts) h e (suc k) = none_of (suc n) ts (omega arith) e k

of_none : (n : ℕ) (ts : List Bool) → ((k : ℕ) → get_or ts k false ≡ false) → numbered n ts ≡ 0
of_none n [] h = refl
of_none n (true ∷ ts) h = absurd (true≢false (h 0))
of_none n (false ∷ ts) h = of_none (suc n) ts (λ k. h (suc k))

by_number : (b : Burst) (prior : List Float) (room : Bool) → refusal_of b prior room ≡ numbered 1 (rows b prior room)
unfolding refusal_of rows
by_number b prior room = refl

pub exact : Exact
exact = record {
  cause = λ b prior room k. (
    λ e. first_of 1 (rows b prior room) k (omega arith) (sym (by_number b prior room) ∙ e ∙ omega arith),
    λ f. by_number b prior room ∙ of_first 1 (rows b prior room) k f ∙ omega arith,
  );
  none = λ b prior room. (
    λ e. none_of 1 (rows b prior room) (omega arith) (sym (by_number b prior room) ∙ e),
    λ h. by_number b prior room ∙ of_none 1 (rows b prior room) h,
  );
}
