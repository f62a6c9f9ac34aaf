-- frame.rs `mix32` and `scramble`, line by line, and what a scramble bit does to a number.
use Rattle.std.specs.Prelude.{ℕ, ◌*◌, ◌/◌, ◌%◌, ◌^◌, cond, ◌==◌, bit_xor, Float}
use Rattle.std.specs.Float.Ieee.{neg}

-- SEED_DATA, SEED_HDR
abbrev pub seed_data : ℕ
seed_data = 0x4865_726d

abbrev pub seed_hdr : ℕ
seed_hdr = 0x6573_4844

-- mix32: each product wraps at 32 bits
unfoldable pub mix_of : ℕ → ℕ
mix_of x =
    let a = bit_xor x (x / 2 ^ 16) in
    let b = a * 0x7feb_352d % 2 ^ 32 in
    let c = bit_xor b (b / 2 ^ 15) in
    let d = c * 0x846c_a68b % 2 ^ 32 in
    bit_xor d (d / 2 ^ 16)

-- scramble: bit 7 of what is mixed
unfoldable pub scramble_of : ℕ → ℕ → ℕ
scramble_of seed i = mix_of (bit_xor (i * 0x9e37_79b9 % 2 ^ 32) seed) / 2 ^ 7 % 2

-- `if scramble(SEED_DATA, i) == 1 { -v } else { v }`
unfoldable pub signed : ℕ → Float → Float
signed i v = cond (scramble_of seed_data i == 1) (neg v) v
