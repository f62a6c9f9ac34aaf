-- Where the pilots of each symbol begin, when they stand in order of symbol: self.start, which est.rs keeps while it
-- loads.
use Rattle.std.specs.Prelude.{ℕ, ◌+◌, cond, ltb}
use Rattle.seq.specs.Loop.{for}

-- of n pilots, how many are of symbols below g
unfoldable pub tally : (ℕ → ℕ) → ℕ → ℕ → ℕ → ℕ
tally symbol g i s = cond (ltb (symbol i) g) (s + 1) s

unfoldable pub below : (ℕ → ℕ) → ℕ → ℕ → ℕ
below symbol n g = for 0 n (tally symbol g) 0
