-- A probe answers what its function answers, and says so where it has nothing to answer.
use Rattle.std.specs.Prelude.{ℕ, Bool, cond, ◌≡◌, List, [], ◌∷◌, ◌++◌, drop, Float}
use Rattle.std.specs.Float.{nan}
use Rattle.soft.specs.declared.moments.Soft.{Soft}

-- a not-a-number outside the domain
unfoldable pub within : Bool → Float → Float
within inside v = cond inside v nan

-- the n numbers `new` stand in front of the old list, and 1 is answered; where they do not fit, the list is as before
-- and the answer 0
pub record Put (fits : Bool) (n : ℕ) (new old : List Float) (r : ℕ) (after : List Float) : Type 0 where
  pub answer : r ≡ cond fits 1 0
  pub written : after ≡ cond fits (new ++ drop n old) old

-- mean and variance as numbers
abbrev pub flat_soft : Soft → List Float
flat_soft s = s.mean.re ∷ s.mean.im ∷ s.var ∷ []
