-- The interleaver's step: 1 for n ≤ 2, else the first number from round(0.61803398875 n) up that is coprime to n.
use Rattle.std.specs.Prelude.{◌≡◌, ℕ, zero, suc, ◌+◌, ◌*◌, ◌/◌, ◌%◌, ◌^◌, ◌<◌, ◌≤◌, cond, pos, ◌==◌, from_bits, nat_le, Float}
use Rattle.std.specs.Int.{◌∣◌}
use Rattle.std.specs.Float.{binary64}
use Rattle.std.specs.Float.Ieee.{of_int, mul}
use Rattle.std.specs.Float.Ieee.Positive.{num, den}

-- Euclid's steps, at most k of them
unfoldable pub gcd_in : ℕ → ℕ → ℕ → ℕ
gcd_in zero a b = a
gcd_in (suc k) a zero = a
gcd_in (suc k) a (suc b) = gcd_in k (suc b) (a % suc b)

-- more than b of them are never needed
unfoldable pub gcd : ℕ → ℕ → ℕ
gcd a b = gcd_in (suc b) a b

-- the first of a, a + 1, .. that is coprime to n, looked for k times
unfoldable pub first_from : ℕ → ℕ → ℕ → ℕ
first_from zero n a = a
first_from (suc k) n a = cond (gcd a n == 1) a (first_from k n (suc a))

-- 0.61803398875
abbrev pub golden : Float
golden = from_bits binary64 0x3fe3_c6ef_372f_ed03

-- Rust's `round` of an x that is not negative, half away from 0: ⌊x + 1/2⌋, where a finite x is the fraction
-- num x / den x
unfoldable pub round_half : Float → ℕ
round_half x = (2 * num x + den x) / (2 * den x)

-- ((n as f64) * 0.618_033_988_75).round()
unfoldable pub start_of : ℕ → ℕ
start_of n = round_half (mul binary64 (of_int binary64 (pos n)) golden)

-- n + 1 is coprime to n, so n + 2 are enough to look at
unfoldable pub step_of : ℕ → ℕ
step_of n = cond (nat_le n 2) 1 (first_from (n + 2) n (start_of n))

-- ---- the same in words

-- no number but 1 divides both
abbrev pub Coprime : ℕ → ℕ → Type 0
Coprime a n = (d : ℕ) → d ∣ a → d ∣ n → d ≡ 1

-- r is the first number from a up that is coprime to n
pub record First (a n r : ℕ) : Type 0 where
  pub from : a ≤ r
  pub coprime : Coprime r n
  pub none_before : (b : ℕ) → a ≤ b → b < r → Coprime b n → ⊥

unfoldable pub FirstCoprime : Type 0
FirstCoprime = (n : ℕ) → 2 < n → n ≤ 2 ^ 52 → First (start_of n) n (step_of n)
