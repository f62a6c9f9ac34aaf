-- What is written reads back as the same fields, and what reads is what is written. Proved in proofs/RoundTrip.antt.
use Rattle.std.specs.Prelude.{ℕ, ◌^◌, ◌<◌, ◌≡◌, cond, List, length, Ok}
use Rattle.header.specs.declared.fields.Header.{Header}
use Rattle.header.specs.declared.parse.Parsed.{Parsed}
use Rattle.header.specs.declared.parse.Parsed.TheVariants.{Data, HeaderOnly}
use Rattle.header.specs.Fields.{header_only}
use Rattle.header.specs.Frame.{bits_of, write_refusal, parse_of, read_refusal}

-- the fields as the kind that they are
abbrev pub as_kind : Header → Parsed
as_kind h = cond (header_only h) (HeaderOnly h) (Data h)

-- the bits of a call that reads as these fields
pub record Rewritten (layout : ℕ) (bits : List ℕ) (h : Header) : Type 0 where
  pub kind : parse_of layout bits ≡ Ok (as_kind h)
  pub accepted : write_refusal layout h ≡ 0
  pub bits_again : bits_of layout h ≡ bits

pub record RoundTrip : Type 0 where
  -- user and extra are 16 bits wide by their type
  pub write_read : (layout : ℕ) (h : Header) → h.user < 2 ^ 16 → h.extra < 2 ^ 16 → write_refusal layout h ≡ 0 → parse_of layout (bits_of layout h) ≡ Ok (as_kind h)
  -- whatever 48 bytes are read
  pub read_write : (layout : ℕ) (bits : List ℕ) → length bits ≡ 48 → read_refusal layout bits ≡ 0 → (h : Header) × Rewritten layout bits h
