-- The check bits of a message, as ITU-T V.41 has them, with document 01's start value; and the source's register that
-- makes them.
use Rattle.std.specs.Prelude.{ℕ, ◌*◌, ◌/◌, ◌%◌, ◌^◌, ◌≡◌, cond, List, [], ◌∷◌, length, get_or, eqb}
use Rattle.seq.specs.Loop.{for}
use Rattle.header.specs.Bits.{value}
use Rattle.header.specs.Poly.{◌⊕◌, Remainder, divide}

-- what is divided: message(x) x^16, and the start value FFFF above it
unfoldable pub dividend : List ℕ → ℕ
dividend bits = value bits * 2 ^ 16 ⊕ 0xFFFF * 2 ^ length bits

-- the check bits: its remainder by the generator
unfoldable pub crc16_of : List ℕ → ℕ
crc16_of bits = divide (length bits) (dividend bits)

-- ---- crc16's register

-- let fb = ((crc >> 15) as u8 ^ b) & 1; crc <<= 1; if fb == 1 { crc ^= 0x1021 }
unfoldable pub shifted : ℕ → ℕ → ℕ
shifted crc b = cond (eqb ((crc / 2 ^ 15 ⊕ b) % 2) 1) (crc * 2 % 2 ^ 16 ⊕ 0x1021) (crc * 2 % 2 ^ 16)

-- let mut crc = 0xFFFF; for &b in bits { .. }
unfoldable pub register : List ℕ → ℕ → ℕ
register bits n = for 0 n (λ i crc. shifted crc (get_or bits i 0)) 0xFFFF

-- ---- what is proved of them

-- "123456789", a line a byte
abbrev pub nine : List ℕ
nine =
    0 ∷ 0 ∷ 1 ∷ 1 ∷ 0 ∷ 0 ∷ 0 ∷ 1 ∷
    0 ∷ 0 ∷ 1 ∷ 1 ∷ 0 ∷ 0 ∷ 1 ∷ 0 ∷
    0 ∷ 0 ∷ 1 ∷ 1 ∷ 0 ∷ 0 ∷ 1 ∷ 1 ∷
    0 ∷ 0 ∷ 1 ∷ 1 ∷ 0 ∷ 1 ∷ 0 ∷ 0 ∷
    0 ∷ 0 ∷ 1 ∷ 1 ∷ 0 ∷ 1 ∷ 0 ∷ 1 ∷
    0 ∷ 0 ∷ 1 ∷ 1 ∷ 0 ∷ 1 ∷ 1 ∷ 0 ∷
    0 ∷ 0 ∷ 1 ∷ 1 ∷ 0 ∷ 1 ∷ 1 ∷ 1 ∷
    0 ∷ 0 ∷ 1 ∷ 1 ∷ 1 ∷ 0 ∷ 0 ∷ 0 ∷
    0 ∷ 0 ∷ 1 ∷ 1 ∷ 1 ∷ 0 ∷ 0 ∷ 1 ∷
    []

-- Proved in proofs/Register.antt.
pub record V41 : Type 0 where
  -- the check bits are the remainder, whatever the message
  pub remainder : (bits : List ℕ) → Remainder (dividend bits) (crc16_of bits)
  -- the register ends with them
  pub registered : (bits : List ℕ) → register bits (length bits) ≡ crc16_of bits
  -- document 01's examples: the single bit 0, and "123456789"
  pub zero_bit : crc16_of (0 ∷ []) ≡ 0xEFDF
  pub one_to_nine : crc16_of nine ≡ 0x29B1
