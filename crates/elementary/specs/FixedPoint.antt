-- What document 01's recipes share: the scales, a float as a whole number and back, and a counted loop. Its // is `/`
-- here, which rounds down.
use Rattle.std.specs.Prelude.{ℕ, zero, suc, ◌+◌, ◌-◌, ◌*◌, ◌/◌, true, false, cond, nat_le, Float}
use Rattle.std.specs.Float.{nan, inf, fin, Format}
use Rattle.std.specs.Float.Ieee.{up, down, round}

-- M = 2^32, the scale of exp and the logarithms
abbrev pub M : ℕ
M = 4294967296

-- L, ln 2 at that scale
abbrev pub L : ℕ
L = 2977044471

-- B = 2^30, the scale of sin and cos
abbrev pub B : ℕ
B = 1073741824

-- |x| U rounded down, for a finite x; `fin s m e` is m * 2 ^ e with a sign, and 2 ^ e is up e / down e
unfoldable pub whole_of : ℕ → Float → ℕ
whole_of U nan = 0
whole_of U (inf s) = 0
whole_of U (fin s m e) = m * up e * U / down e

-- (a - b) / U to the nearest value of the format; where a = b, it is +0
unfoldable pub over : Format → ℕ → ℕ → ℕ → Float
over f a b U = cond (nat_le b a) (round f false (a - b) U) (round f true (b - a) U)

-- n turns of a loop that counts j down to `last`, from s: turn j makes step j s of s
unfoldable pub turns : ℕ → ℕ → (ℕ → ℕ → ℕ) → ℕ → ℕ
turns last zero step s = s
turns last (suc n) step s = turns last n step (step (last + n) s)

-- for j = first down to last
abbrev pub down_to : ℕ → ℕ → (ℕ → ℕ → ℕ) → ℕ → ℕ
down_to first last step s = turns last (suc first - last) step s
