-- A test that is computed at each number below n holds at each; a loop of so many turns is computed turn by turn.
-- Assumes nothing.
use Prim.Native.Nat.{ℕ, zero, suc, ◌<◌}
use mathlib.Core.Path.{◌≡◌, refl, sym, ap, ◌∙◌, subst}
use mathlib.Core.Bool.{Bool, true, ◌&&◌}
use mathlib.Core.Logic.{◌⊎◌, inl, inr}
use native.Mathlib.Nat.{eq-or-lt_of_le, le_of_suc-le-suc, not-suc-le-zero}
use native.Mathlib.Numerals.{add-one}
use native.Mathlib.Omega.{arith}
use lib.Dec.{T}
use lib.Ieee.Fits.{and_l, and_r}
use Rattle.seq.specs.Loop.{for}
use Rattle.seq.specs.Loop.Laws.{for_none, for_next}

-- p holds at 0, .., n - 1
abbrev pub all : ℕ → (ℕ → Bool) → Bool
all zero p = true
all (suc n) p = p n && all n p

pub all_at : (n : ℕ) (p : ℕ → Bool) → T (all n p) → (i : ℕ) → i < n → T (p i)
all_at zero p t i h = absurd (not-suc-le-zero h)
all_at (suc n) p t i h = go (eq-or-lt_of_le (le_of_suc-le-suc h)) (λ b. all_at n p (and_r (p n) (all n p) t) i b)
  where
    go : (i ≡ n) ⊎ (i < n) → (i < n → T (p i)) → T (p i)
    go (inl e) r = subst (λ (j : ℕ). T (p j)) (sym e) (and_l (p n) (all n p) t)
    go (inr b) r = r b

-- the turns 0, .., n - 1, from s
abbrev pub run : {S : Type 0} → ℕ → (ℕ → S → S) → S → S
run zero f s = s
run (suc n) f s = f n (run n f s)

pub for_run : {S : Type 0} (f : ℕ → S → S) (n : ℕ) (s : S) → for 0 n f s ≡ run n f s
for_run f zero s = sym (for_none f 0 s)
for_run f (suc n) s = rw (← add-one n) (for_next f 0 n s (omega arith) ∙ ap (f n) (for_run f n s))

pub run_same : {S : Type 0} (f g : ℕ → S → S) → ((i : ℕ) (s : S) → f i s ≡ g i s) → (n : ℕ) (s : S) → run n f s ≡ run n g s
run_same f g h zero s = refl
run_same f g h (suc n) s = h n (run n f s) ∙ ap (g n) (run_same f g h n s)
