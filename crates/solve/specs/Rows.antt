-- What `reduce` gives: n rows of one column from row i on, each with its own products in its own order.
use Rattle.std.specs.Prelude.{ℕ, ◌+◌, ◌<◌, ◌≡◌, List, Float}
use Rattle.solve.specs.Solve.{at, reduced}

abbrev pub ReducedRows : ℕ → List Float → List Float → ℕ → ℕ → Type 0
ReducedRows n s a i j = (r : ℕ) → r < n → at s r ≡ reduced a (i + r) j
