-- The 48 bits of a header, written and read, with document 01's causes for turning a call away.
use Rattle.std.specs.Prelude.{ℕ, ◌≡◌, Bool, cond, not, ◌&&◌, List, ◌++◌, take, drop, eqb, ltb, Result, Ok, Err}
use Rattle.header.specs.declared.fields.Header.{Header}
use Rattle.header.specs.declared.parse.Parsed.{Parsed}
use Rattle.header.specs.declared.parse.Parsed.TheVariants.{Data, HeaderOnly}
use Rattle.cause.specs.declared.Cause.{Cause}
use Rattle.cause.specs.declared.Cause.TheVariants.{Layout, Fields, NoSymbols, Check}
use Rattle.cause.specs.Causes.{number_of}
use Rattle.header.specs.Bits.{are_bits, value, digits}
use Rattle.header.specs.Poly.{◌⊕◌}
use Rattle.header.specs.Check.{crc16_of}
use Rattle.header.specs.Masks.{data_mask, only_mask}
use Rattle.header.specs.Fields.{header_only, accepted, info_of, nsym_in, data_from, only_from}

-- ---- written

-- 32 bits of information, then their check under a mask
unfoldable pub frame_of : ℕ → ℕ → List ℕ
frame_of info mask = digits 32 info ++ digits 16 (crc16_of (digits 32 info) ⊕ mask)

unfoldable pub mask_of : ℕ → Header → ℕ
mask_of layout h = cond (header_only h) (only_mask layout) (data_mask layout)

unfoldable pub bits_of : ℕ → Header → List ℕ
bits_of layout h = frame_of (info_of h) (mask_of layout h)

-- the table's rows for writing
unfoldable pub write_refusal : ℕ → Header → ℕ
write_refusal layout h =
    cond (ltb 8 layout) 1
    (cond (not (accepted h)) 10
    0)

-- a call that writes: its answer's number, and the lent array before and after
pub record Writes (layout : ℕ) (h : Header) (number : ℕ) (out₀ out₁ : List ℕ) : Type 0 where
  pub answer : number ≡ write_refusal layout h
  pub out : out₁ ≡ cond (eqb (write_refusal layout h) 0) (bits_of layout h) out₀

-- ---- read

abbrev pub info_in : List ℕ → ℕ
info_in bits = value (take 32 bits)

-- the last 16 bits are the check of the first 32, under a mask
unfoldable pub fits : ℕ → List ℕ → Bool
fits mask bits = eqb (value (drop 32 bits)) (crc16_of (take 32 bits) ⊕ mask)

-- the table's rows for reading
unfoldable pub read_refusal : ℕ → List ℕ → ℕ
read_refusal layout bits =
    cond (ltb 8 layout) 1
    (cond (not (are_bits bits)) 10
    (cond (fits (data_mask layout) bits && eqb (nsym_in (info_in bits)) 0) 9
    (cond (not (fits (data_mask layout) bits) && not (fits (only_mask layout) bits)) 8
    0)))

-- parse_header: the data mask first
unfoldable pub parse_of : ℕ → List ℕ → Result Parsed Cause
parse_of layout bits =
    cond (ltb 8 layout) (Err Layout)
    (cond (not (are_bits bits)) (Err Fields)
    (cond (fits (data_mask layout) bits)
    (cond (eqb (nsym_in (info_in bits)) 0) (Err NoSymbols) (Ok (Data (data_from (info_in bits)))))
    (cond (fits (only_mask layout) bits) (Ok (HeaderOnly (only_from (info_in bits))))
    (Err Check))))

-- a call that reads
pub record Parses (layout : ℕ) (bits : List ℕ) (r : Result Parsed Cause) : Type 0 where
  pub number : number_of r ≡ read_refusal layout bits
  pub answer : r ≡ parse_of layout bits
