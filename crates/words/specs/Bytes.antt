-- Numbers as bytes, the most significant first.
use Rattle.std.specs.Prelude.{ℕ, ◌+◌, ◌*◌, ◌/◌, ◌%◌, ◌^◌, List, [], ◌∷◌, get_or, Float}
use Rattle.std.specs.Float.{binary32}
use Rattle.std.specs.Float.Ieee.{of_bits, to_bits}

-- the four bytes from place k
unfoldable pub word_at : List ℕ → ℕ → ℕ
word_at bytes k = get_or bytes k 0 * 2 ^ 24 + get_or bytes (k + 1) 0 * 2 ^ 16 + get_or bytes (k + 2) 0 * 2 ^ 8 + get_or bytes (k + 3) 0

unfoldable pub word : ℕ → List ℕ
word x = (x / 2 ^ 24) ∷ (x / 2 ^ 16 % 2 ^ 8) ∷ (x / 2 ^ 8 % 2 ^ 8) ∷ (x % 2 ^ 8) ∷ []

-- a float's pattern: a not-a-number has 7FC00000, and a zero keeps its sign
abbrev pub number : Float → List ℕ
number x = word (to_bits binary32 x)

abbrev pub float_at : List ℕ → ℕ → Float
float_at bytes k = of_bits binary32 (word_at bytes k)
