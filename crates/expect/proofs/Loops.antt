-- What the check uses of the loops over cells and symbols. Assumes nothing.
use mathlib.Core.Path.{◌≡◌, sym, ap}
use mathlib.Core.List.{List, ◌++◌}
use Prim.Native.Nat.{ℕ}
use lib.Ieee.{Float}
use Rattle.seq.specs.Cat.{cat}
use Rattle.seq.specs.Cat.Laws.{cat_zero, cat-none, cat_end}
use Rattle.spread.proofs.Pairs.{pairs_none, pairs_step, pairs_end}

pub none : (f : ℕ → List Float) (l : List Float) → l ≡ cat 0 f ++ l
none f l = sym (ap (λ (t : List Float). t ++ l) (cat_zero f))

-- a list written cell by cell, or symbol by symbol
pub ruleset cells = (none, cat-none, cat_end)

-- or two numbers at a time
pub ruleset numbers = (pairs_none, pairs_step, pairs_end)
