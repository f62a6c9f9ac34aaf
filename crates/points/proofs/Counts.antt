-- How many points there are, which labels they have, and which counts a float holds. Assumes nothing.
use Prim.Native.Nat.{ℕ, zero, suc, ◌+◌, ◌-◌, ◌*◌, ◌/◌, ◌%◌, ◌^◌, ◌≤◌, ◌<◌}
use mathlib.Core.Path.{◌≡◌, refl}
use native.Mathlib.Nat.{lt_of_lt_of_le}
use native.Mathlib.Omega.{arith}
use lib.Bits.{xor_lt, or_lt}
use lib.Pow.{pow_mono, shl_exact, shl_lt}
use Rattle.points.specs.Constellation.{gray_of, label_of}

pub at_most_64 : (b : ℕ) → b ≤ 6 → 2 ^ b ≤ 64
at_most_64 b h = pow_mono {j = 6} h

pub at_most_8 : (b : ℕ) → b ≤ 3 → 2 ^ b ≤ 8
at_most_8 b h = pow_mono {j = 3} h

pub gray_below : (b i : ℕ) → i < 2 ^ b → gray_of i < 2 ^ b
unfolding gray_of
gray_below b i h = xor_lt b i (i / 2) h (omega arith)

pub label_shifted : (b i : ℕ) → b ≤ 3 → i < 2 ^ b → gray_of i * 2 ^ b % 18446744073709551616 ≡ gray_of i * 2 ^ b
label_shifted b i h k = shl_exact b b 64 (gray_below b i k) (omega arith)

pub label_below : (b i q : ℕ) → b ≤ 3 → i < 2 ^ b → q < 2 ^ b → label_of b i q < 64
unfolding label_of
label_below b i q h k l =
    lt_of_lt_of_le
    (or_lt (b + b) (gray_of i * 2 ^ b) (gray_of q) (shl_lt b b (gray_below b i k)) (lt_of_lt_of_le (gray_below b q l) (pow_mono {j = b + b} (omega arith))))
    (pow_mono {j = 6} (omega arith))

-- a code that is none of the first three
pub from_three : (code : ℕ) → (code ≡ 0 → ⊥) → (code ≡ 1 → ⊥) → (code ≡ 2 → ⊥) → code ≡ suc (suc (suc (code - 3)))
from_three zero a b d = absurd (a refl)
from_three (suc zero) a b d = absurd (b refl)
from_three (suc (suc zero)) a b d = absurd (d refl)
from_three (suc (suc (suc code))) a b d = omega arith
