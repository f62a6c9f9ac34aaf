-- A level of the tree of labels: label j is label j / 2 of the level above, and the bit j % 2.
use Rattle.std.specs.Prelude.{ℕ, ◌*◌, ◌/◌, ◌%◌, ◌^◌, ◌<◌, ◌≡◌, cond, List, eqb, get_or, replicate, Float}
use Rattle.std.specs.Float.{nan}
use Rattle.ieee.specs.Num.{◌⊟◌, zero32}
use Rattle.soft.specs.Soft.{log_probability}

unfoldable pub page : List Float
page = replicate 64 zero32

unfoldable pub child : List Float → Float → Float → ℕ → Float
child up zero one j = get_or up (j / 2) nan ⊟ cond (eqb (j % 2) 0) zero one

-- r begins with the labels one bit longer than the first n of up
abbrev pub Children : List Float → ℕ → Float → Float → List Float → Type 0
Children up n zero one r = (j : ℕ) → j < 2 * n → get_or r j nan ≡ child up zero one j

-- r begins with the labels of b bits
abbrev pub Level : List Float → ℕ → List Float → Type 0
Level llr b r = (k : ℕ) → k < 2 ^ b → get_or r k nan ≡ log_probability llr b k
