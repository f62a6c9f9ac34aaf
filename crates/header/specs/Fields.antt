-- The header's fields, and its 32 bits of information as one number.
use Rattle.std.specs.Prelude.{ℕ, ◌+◌, ◌*◌, ◌/◌, ◌%◌, ◌^◌, Bool, false, cond, not, ◌&&◌, eqb, leb}
use Rattle.header.specs.declared.mode.DataMode.{DataMode}
use Rattle.header.specs.declared.fields.Header.{Header}

abbrev pub bit : Bool → ℕ
bit b = cond b 1 0

-- ---- DataMode

-- PLAIN
abbrev pub plain : DataMode
plain = record { spread = false; gain_code = 0 }

-- spread << 1 | gain_code << 2
unfoldable pub mode_bits : DataMode → ℕ
mode_bits m = bit m.spread * 2 + m.gain_code * 4

-- r >> 1 & 1, r >> 2 & 3
unfoldable pub mode_from : ℕ → DataMode
mode_from r = record { spread = eqb (r / 2 % 2) 1; gain_code = r / 4 % 4 }

abbrev pub is_plain : DataMode → Bool
is_plain m = not m.spread && eqb m.gain_code 0

-- ---- Header

abbrev pub header_only : Header → Bool
header_only h = eqb h.nsym 0

-- each field has room; user and extra fill theirs
abbrev pub narrow : Header → Bool
narrow h = leb h.constellation 3 && leb h.nsym 1023 && leb h.mode.gain_code 3

-- part 11: data has extra 0; header-only has constellation 0, is not sparse, and its mode is plain
unfoldable pub accepted : Header → Bool
accepted h = narrow h && cond (header_only h) (eqb h.constellation 0 && not h.sparse && is_plain h.mode) (eqb h.extra 0)

-- constellation (2 bits), data symbols (10), user (16), mode (3), sparse (1)
unfoldable pub data_info : Header → ℕ
data_info h = h.constellation * 2 ^ 30 + h.nsym * 2 ^ 20 + h.user * 2 ^ 4 + (mode_bits h.mode + bit h.sparse)

-- extra stands in the place of all but user: its bits 15..14, 13..4 and 3..0
unfoldable pub only_info : Header → ℕ
only_info h = h.extra / 2 ^ 14 * 2 ^ 30 + h.extra / 2 ^ 4 % 2 ^ 10 * 2 ^ 20 + h.user * 2 ^ 4 + h.extra % 2 ^ 4

unfoldable pub info_of : Header → ℕ
info_of h = cond (header_only h) (only_info h) (data_info h)

-- ---- and back

-- the 10 bits that hold the number of data symbols
abbrev pub nsym_in : ℕ → ℕ
nsym_in info = info / 2 ^ 20 % 2 ^ 10

unfoldable pub data_from : ℕ → Header
data_from info = record {
  constellation = info / 2 ^ 30;
  nsym = nsym_in info;
  user = info / 2 ^ 4 % 2 ^ 16;
  extra = 0;
  sparse = eqb (info % 2) 1;
  mode = mode_from info;
}

unfoldable pub only_from : ℕ → Header
only_from info = record {
  constellation = 0;
  nsym = 0;
  user = info / 2 ^ 4 % 2 ^ 16;
  extra = info / 2 ^ 30 * 2 ^ 14 + nsym_in info * 2 ^ 4 + info % 2 ^ 4;
  sparse = false;
  mode = plain;
}
