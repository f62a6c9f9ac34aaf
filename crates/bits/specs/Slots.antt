-- A burst's n bits and the n slots that they sit at: the first and the last loop of refine.rs `refine`.
use Rattle.std.specs.Prelude.{ℕ, ◌*◌, ◌%◌, ◌<◌, ◌≤◌, List, replicate, from_bits, slice_index_or, Float}
use Rattle.std.specs.Float.{nan, binary32}
use Rattle.seq.specs.Fill.{fill, EachOnce}
use Rattle.seq.specs.Tab.{tab}
use Rattle.bits.specs.Mix.{signed}
use Rattle.bits.specs.Step.{step_of}

-- the bits of the longest burst: 1023 symbols of 99 carriers, 6 bits a point
abbrev pub longest : ℕ
longest = 607662

-- (a * i) % nbits
unfoldable pub slot_of : ℕ → ℕ → ℕ
slot_of n i = step_of n * i % n

-- 0.0, an absent prior too
abbrev pub nought : Float
nought = from_bits binary32 0

-- the prior of bit i, scrambled
unfoldable pub prior_bit : List Float → ℕ → Float
prior_bit prior i = signed i (slice_index_or prior i nought)

-- vec![0f32; nbits], then each bit's prior put at its slot
unfoldable pub slot_priors : ℕ → List Float → List Float
slot_priors n prior = fill (slot_of n) (prior_bit prior) n (replicate n nought)

-- bit i of the numbers in slot order, unscrambled
unfoldable pub bit_of : ℕ → List Float → ℕ → Float
bit_of n slots i = signed i (slice_index_or slots (slot_of n i) nan)

unfoldable pub bit_order : ℕ → List Float → List Float
bit_order n slots = tab n (bit_of n slots)

-- every slot is one bit's
unfoldable pub SlotsOnce : Type 0
SlotsOnce = (n : ℕ) → 0 < n → n ≤ longest → EachOnce n (slot_of n)
