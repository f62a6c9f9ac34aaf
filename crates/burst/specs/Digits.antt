-- Numbers in ASCII.
use Rattle.std.specs.Prelude.{ℕ, zero, suc, ◌+◌, ◌/◌, ◌%◌, ◌^◌, cond, List, [], ◌∷◌, ◌++◌, ltb}

-- 0 to 9, then A to F
unfoldable pub digit_of : ℕ → ℕ
digit_of n = cond (ltb n 10) (48 + n) (55 + n)

-- decimal digits, no zero in front; at most `most` of them
unfoldable pub digits : (most : ℕ) → ℕ → List ℕ
digits zero n = []
digits (suc k) n = cond (ltb n 10) (digit_of n ∷ []) (digits k (n / 10) ++ (digit_of (n % 10) ∷ []))

-- no number n has more than n + 1
unfoldable pub decimal : ℕ → List ℕ
decimal n = digits (n + 1) n

-- two hexadecimal digits of a byte
unfoldable pub pair_of : ℕ → List ℕ
pair_of b = digit_of (b / 16) ∷ digit_of (b % 16) ∷ []

-- eight of a number below 2 ^ 32
unfoldable pub hex8 : ℕ → List ℕ
hex8 x = pair_of (x / 2 ^ 24) ++ (pair_of (x / 2 ^ 16 % 2 ^ 8) ++ (pair_of (x / 2 ^ 8 % 2 ^ 8) ++ pair_of (x % 2 ^ 8)))
