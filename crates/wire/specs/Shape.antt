-- The rows of document 01's table of causes that a record's shape decides, and how many bits and bytes one of an
-- accepted shape stands for.
use Rattle.std.specs.Prelude.{ℕ, ◌+◌, ◌*◌, Bool, not, cond, ◌||◌, List, length, ltb, eqb, Option, Some, None}
use Rattle.refine.specs.Refine.{nbits, ncell}
use Rattle.table.specs.Rows.{bad_layout, bad_codes, bad_symbols}
use Rattle.wire.specs.Record.{head, padding, settings, count_of, burst_of}

module _ (rec : List ℕ) where
  -- 12: under 6 bytes, over 8,192, or padded with a 1
  unfoldable pub bad_record : Bool
  bad_record = ltb (length rec) 6 || (ltb 8192 (length rec) || not (eqb (padding (head rec)) 0))

  -- 12: not of the length its fields give
  unfoldable pub bad_length : Bool
  bad_length = not (eqb (length rec) (6 + 4 * count_of rec))

  -- the rows up to there; 0 where none holds
  unfoldable pub shape_refusal : ℕ
  shape_refusal =
      cond bad_record 12
      (cond (bad_layout (settings rec)) 1
      (cond (bad_codes (settings rec)) 2
      (cond (bad_symbols (settings rec)) 3
      (cond bad_length 12
      0))))

  -- bits of a record whose shape is accepted, else 0
  unfoldable pub bits_of : ℕ
  bits_of = cond (eqb shape_refusal 0) (nbits (burst_of rec)) 0

  -- the same, and none where the shape is not accepted
  unfoldable pub bits_in : Option ℕ
  bits_in = cond (eqb shape_refusal 0) (Some (nbits (burst_of rec))) None

  -- bytes of an answer, and of the estimates beside it
  abbrev pub answer_length : ℕ
  answer_length = 10 + 4 * nbits (burst_of rec)

  abbrev pub channel_length : ℕ
  channel_length = 4 * (3 * ncell (burst_of rec))
