-- Document 01's table of causes for a record: the number of the first row that turns it away, or 0.
use Rattle.std.specs.Prelude.{ℕ, Bool, cond, List, eqb}
use Rattle.table.specs.Refusals.{refusal_of}
use Rattle.wire.specs.Record.{burst_of, prior_of}
use Rattle.wire.specs.Shape.{shape_refusal}

-- The shape's rows, then those of numbers. `room` says whether the bytes lent for the answer are enough.
unfoldable pub refusal_in : (rec : List ℕ) → (room : Bool) → ℕ
refusal_in rec room = cond (eqb (shape_refusal rec) 0) (refusal_of (burst_of rec) (prior_of rec) room) (shape_refusal rec)
