-- The table of causes is exact for a record: it is given the number of the first row that turns it away, and 0 where
-- none does. Proved in proofs/Exact.antt; what is said below of bursts laid out in proofs/AsLists.antt, and that
-- records of every kind are accepted in proofs/Accepting.antt.
use Rattle.std.specs.Prelude.{ℕ, ◌+◌, ◌^◌, ◌<◌, ◌≤◌, ◌≡◌, Bool, true, false, not, List, [], ◌∷◌, ◌↔◌, length, get_or, Float}
use Rattle.refine.specs.declared.settings.Settings.{Settings}
use Rattle.refine.specs.Refine.{Burst}
use Rattle.table.specs.Rows.{bad_layout, bad_codes, bad_symbols, bad_grid, bad_variances, bad_numbers}
use Rattle.table.specs.Refusals.{refusal_of}
use Rattle.table.specs.Table.{First, plain, silent, blank}
use Rattle.wire.specs.Record.{settings, burst_of, prior_of}
use Rattle.wire.specs.Layout.{laid_out, Holds}
use Rattle.wire.specs.Shape.{bad_record, bad_length}
use Rattle.record.specs.Refusals.{refusal_in}

-- ---- exact

module _ (rec : List ℕ) where
  unfoldable pub rows : (room : Bool) → List Bool
  rows room =
      let s = settings rec in
      let b = burst_of rec in
      bad_record rec
      ∷ bad_layout s
      ∷ bad_codes s
      ∷ bad_symbols s
      ∷ bad_length rec
      ∷ not room
      ∷ bad_numbers s b.grid b.sigma b.cells (prior_of rec)
      ∷ []

  -- The rows of causes 4 and 5 hold for no record: its burst is read with the lengths that its fields give. Nor does
  -- that of cause 2: both codes have two bits.
  pub record Unreached : Type 0 where
    pub codes : bad_codes (settings rec) ≡ false
    pub grid : bad_grid (settings rec) (burst_of rec).grid ≡ false
    pub variances : bad_variances (settings rec) (burst_of rec).sigma (burst_of rec).cells ≡ false

-- the number of each
unfoldable pub row_numbers : List ℕ
row_numbers = 12 ∷ 1 ∷ 2 ∷ 3 ∷ 12 ∷ 6 ∷ 7 ∷ []

pub record Exact : Type 0 where
  pub cause : (rec : List ℕ) (room : Bool) (n : ℕ) → refusal_in rec room ≡ n + 1 ↔ ((k : ℕ) × First (rows rec room) k × (get_or row_numbers k 0 ≡ n + 1))
  pub none : (rec : List ℕ) (room : Bool) → refusal_in rec room ≡ 0 ↔ ((k : ℕ) → get_or (rows rec room) k false ≡ false)
  pub unreached : (rec : List ℕ) → Unreached rec

-- ---- a burst whose record is short enough is given one number, by the record or by its lists

unfoldable pub AsLists : Type 0
AsLists = (b : Burst) (prior : List Float) (room : Bool) → Holds b prior → length (laid_out b prior) ≤ 8192 → refusal_in (laid_out b prior) room ≡ refusal_of b prior room

-- ---- records that are accepted: a grid of zeros, variances, boost, pilot gain and p_h 1, priors of 0

abbrev pub silent_record : Settings → (priors : ℕ) → List ℕ
silent_record s priors = laid_out (silent s) (blank priors)

unfoldable pub SomeAccepted : Type 0
SomeAccepted =
    (layout constellation nsym : ℕ) (sparse spread : Bool) (gainCode k priors : ℕ)
    → layout ≤ 8 → constellation ≤ 3 → 1 ≤ nsym → nsym ≤ 1023 → gainCode ≤ 3 → k < 2 ^ 6
    → let rec = silent_record (plain layout constellation nsym sparse spread gainCode k) priors in
    length rec ≤ 8192 → refusal_in rec true ≡ 0
