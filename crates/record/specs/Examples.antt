-- Document 01's printed example, and how long a record can be. Proved in proofs/Examples.antt.
use Rattle.std.specs.Prelude.{ℕ, ◌+◌, ◌*◌, ◌≤◌, ◌≡◌, Bool, true, false, List, [], ◌∷◌, length, take}
use Rattle.table.specs.Table.{plain}
use Rattle.wire.specs.Record.{fields, count_of}
use Rattle.wire.specs.Shape.{bits_of}
use Rattle.record.specs.Refusals.{refusal_in}
use Rattle.record.specs.Table.{silent_record}

-- layout 7, nsym 1, k 20, so many priors
abbrev pub example : (priors : ℕ) → List ℕ
example priors = silent_record (plain 7 0 1 false false 0 20) priors

abbrev pub printed : List ℕ
printed = example 0

pub record Printed : Type 0 where
  pub starts : take 6 printed ≡ 0x70 ∷ 0x01 ∷ 0x05 ∷ 0x00 ∷ 0x00 ∷ 0x00 ∷ []
  pub reads : fields printed ≡ record { layout = 7; constellation = 0; nsym = 1; sparse = false; spread = false; gain_code = 0; k = 20; priors = 0 }
  pub fields_give : 6 + 4 * count_of printed ≡ 2530
  pub long : length printed ≡ 2530
  pub accepted : refusal_in printed true ≡ 0
  pub bits : bits_of printed ≡ 6

-- 8,190 bytes, the length of the example with 1,415 priors
pub record Longest : Type 0 where
  pub most : (rec : List ℕ) (room : Bool) → refusal_in rec room ≡ 0 → length rec ≤ 8190
  pub long : length (example 1415) ≡ 8190
  pub accepted : refusal_in (example 1415) true ≡ 0
