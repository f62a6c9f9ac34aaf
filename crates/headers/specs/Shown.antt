-- A header as numbers, for C.
use Rattle.std.specs.Prelude.{ℕ, ◌≡◌, Bool, List, [], ◌∷◌, Result, Ok, Err}
use Rattle.header.specs.declared.fields.Header.{Header}
use Rattle.cause.specs.declared.Cause.{Cause}
use Rattle.header.specs.declared.parse.Parsed.{Parsed}
use Rattle.header.specs.declared.parse.Parsed.TheVariants.{Data, HeaderOnly}
use Rattle.header.specs.Fields.{bit}
use Rattle.header.specs.Frame.{read_refusal, parse_of}

abbrev pub header_of : (constellation nsym user extra : ℕ) (sparse spread : Bool) (gain : ℕ) → Header
header_of constellation nsym user extra sparse spread gain = record {
  constellation = constellation;
  nsym = nsym;
  user = user;
  extra = extra;
  sparse = sparse;
  mode = record { spread = spread; gain_code = gain };
}

-- the kind, then the fields
unfoldable pub numbers_of : ℕ → Header → List ℕ
numbers_of kind h =
    kind ∷ h.constellation ∷ h.nsym ∷ h.user ∷ h.extra ∷ bit h.sparse ∷ bit h.mode.spread ∷ h.mode.gain_code ∷ []

-- data is kind 0, header-only kind 1; a refusal shows nothing
abbrev pub shown : Result Parsed Cause → List ℕ → List ℕ
shown (Ok (Data h)) old = numbers_of 0 h
shown (Ok (HeaderOnly h)) old = numbers_of 1 h
shown (Err cause) old = old

-- a call that reads: the table's number, and the lent array before and after
pub record Reads (layout : ℕ) (bits : List ℕ) (number : ℕ) (out₀ out₁ : List ℕ) : Type 0 where
  pub answer : number ≡ read_refusal layout bits
  pub out : out₁ ≡ shown (parse_of layout bits) out₀
