-- A fact of every layout, from nine facts; and the numbers past the last. Assumes nothing.
use Rattle.std.proofs.Common.{◌≡◌, ℕ, zero, suc, ◌<◌, ◌≤◌, ◌⊎◌, List, [], ◌∷◌, get_or, sym, ap, inl, inr, eq-or-lt_of_le, arith}
use lib.ListN.{get_or-eq_default}
use Rattle.layout.specs.declared.layouts.Layout.{Layout}
use Rattle.layout.specs.Layouts.{sixth, layouts, layout_of}

abbrev All : (Layout → Type 0) → List Layout → Type 0
All P [] = Unit {0}
All P (l ∷ ls) = P l × All P ls

pub each : (P : Layout → Type 0) → All P layouts → P sixth → (k : ℕ) → P (layout_of k)
unfolding layout_of
each P all last = at layouts all
  where
    at : (ls : List Layout) → All P ls → (k : ℕ) → P (get_or ls k sixth)
    at [] h k = last
    at (l ∷ ls) h zero = h.0
    at (l ∷ ls) h (suc k) = at ls h.1 k

from_eight : (number : ℕ) → 8 ≤ number → sixth ≡ layout_of number
unfolding layout_of
from_eight number h = go (eq-or-lt_of_le h)
  where
    go : (8 ≡ number) ⊎ (8 < number) → sixth ≡ layout_of number
    go (inl e) = ap layout_of e
    go (inr b) = sym (get_or-eq_default layouts sixth b)

-- a number that is none of the first eight
pub last : (number : ℕ) → (number ≡ 0 → ⊥) → (number ≡ 1 → ⊥) → (number ≡ 2 → ⊥) → (number ≡ 3 → ⊥) → (number ≡ 4 → ⊥) → (number ≡ 5 → ⊥) → (number ≡ 6 → ⊥) → (number ≡ 7 → ⊥)
    → sixth ≡ layout_of number
last number h₀ h₁ h₂ h₃ h₄ h₅ h₆ h₇ = from_eight number (omega arith)
