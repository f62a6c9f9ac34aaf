-- What the demapper computes once for several bits, beside the source: exponentials against the largest metric of all.
use Rattle.std.specs.Prelude.{ℕ, ◌^◌, ◌<◌, ◌≡◌, not, cond, List, T, eqb, Float}
use Rattle.std.specs.Float.Ieee.{lt}
use Rattle.seq.specs.Loop.{for}
use Rattle.ieee.specs.Num.{◌⊞◌, ◌⊟◌, zero32}
use Rattle.elementary.specs.Domain.{NotAbove}
use Rattle.elementary.specs.Exp.{exp_at}
use Rattle.soft.specs.Soft.{bit_of}
use Rattle.demap.specs.Demap.{at}

-- m is below no metric, and exp may be asked for each metric less m
abbrev pub Over : List Float → ℕ → Float → Type 0
Over d bps m = (k : ℕ) → k < 2 ^ bps → T (not (lt m (at d k)))

abbrev pub Asked : List Float → ℕ → Float → Type 0
Asked d bps m = (k : ℕ) → k < 2 ^ bps → NotAbove (at d k ⊟ m)

-- e begins with the exponentials against m
abbrev pub Shared : List Float → ℕ → Float → List Float → Type 0
Shared d bps m e = (k : ℕ) → k < 2 ^ bps → at e k ≡ exp_at (at d k ⊟ m)

-- the sum of those whose label has the bit
unfoldable pub pick_turn : List Float → ℕ → ℕ → ℕ → ℕ → Float → Float
pick_turn e bps b bit k s = cond (eqb (bit_of bps k b) bit) (s ⊞ at e k) s

unfoldable pub picked_of : List Float → ℕ → ℕ → ℕ → Float
picked_of e bps b bit = for 0 (2 ^ bps) (pick_turn e bps b bit) zero32

-- from `first` on, a step for each label that has the bit: the loop of which the largest metric and the two sums are
-- instances
unfoldable pub half_turn : (Float → Float → Float) → List Float → ℕ → ℕ → ℕ → ℕ → Float → Float
half_turn step d bps b bit k s = cond (eqb (bit_of bps k b) bit) (step s (at d k)) s

unfoldable pub half_of : (Float → Float → Float) → List Float → ℕ → ℕ → ℕ → Float → Float
half_of step d bps b bit first = for 0 (2 ^ bps) (half_turn step d bps b bit) first

-- the step may be taken at each of these labels, whatever went before
abbrev pub CanStep : (Float → Float → Type 0) → List Float → ℕ → ℕ → ℕ → Type 0
CanStep pre d bps b bit = (k : ℕ) → k < 2 ^ bps → bit_of bps k b ≡ bit → (s : Float) → pre s (at d k)

-- r is what the steps come to, for any f that says what one step answers
abbrev pub FoldsHalf : (Float → Float → Float → Type 0) → List Float → ℕ → ℕ → ℕ → Float → Float → Type 0
FoldsHalf post d bps b bit first r =
    (f : Float → Float → Float) → ((s x t : Float) → post s x t → t ≡ f s x) → r ≡ half_of f d bps b bit first
