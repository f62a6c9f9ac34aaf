-- A record is given the number of the first row that turns it away. Assumes nothing.
use Prim.Native.Nat.{ℕ, zero, suc, ◌+◌, ◌*◌}
use mathlib.Core.Path.{◌≡◌, refl, sym, ◌∙◌}
use mathlib.Core.Bool.{Bool, true, false, not, cond}
use mathlib.Core.List.{List, [], ◌∷◌}
use native.Mathlib.Nat.{not-suc-le-zero}
use native.Mathlib.Omega.{arith}
use lib.ListN.{length, get_or}
use lib.Dec.{eqb}
use borrow.Author.Tests.{eq-eqb, le-ltb}
use Rattle.seq.specs.Tab.Laws.{length_tab}
use Rattle.table.specs.Sizes.{nc_of, ncell_of, grid_cells}
use Rattle.table.specs.Rows.{bad_layout, bad_codes, bad_symbols, bad_grid, bad_variances, bad_numbers}
use Rattle.table.specs.Refusals.{refusal_of}
use Rattle.table.specs.Table.{First}
use Rattle.table.proofs.Exact.{first_none, next, rest}
use Rattle.std.proofs.lemmas.Bool.{true≢false}
use Rattle.wire.specs.Record.{fields, fields_of, settings, settings_of, burst_of, prior_of}
use Rattle.wire.specs.Shape.{bad_record, bad_length, shape_refusal}
use Rattle.record.specs.Refusals.{refusal_in}
use Rattle.record.specs.Table.{rows, row_numbers, Exact}

-- ---- the first true test's number, or 0

abbrev given : List Bool → List ℕ → ℕ
given [] ns = 0
given (t ∷ ts) [] = 0
given (t ∷ ts) (n ∷ ns) = cond t n (given ts ns)

-- each test has a number, and none is 0
abbrev Numbered : List Bool → List ℕ → Type 0
Numbered [] ns = Unit
Numbered (t ∷ ts) [] = ⊥
Numbered (t ∷ ts) (zero ∷ ns) = ⊥
Numbered (t ∷ ts) (suc n ∷ ns) = Numbered ts ns

first_of : (ts : List Bool) (ns : List ℕ) (n : ℕ) → given ts ns ≡ n + 1 → (k : ℕ) × First ts k × (get_or ns k 0 ≡ n + 1)
first_of [] ns n e = absurd (omega arith)
first_of (t ∷ ts) [] n e = absurd (omega arith)
first_of (true ∷ ts) (m ∷ ns) n e = (0, record { here = refl; above = λ i b. absurd (not-suc-le-zero b) }, e)
first_of (false ∷ ts) (m ∷ ns) n e = let f = first_of ts ns n e in (suc f.0, next f.1, f.2)

of_first : (ts : List Bool) (ns : List ℕ) (n k : ℕ) → First ts k → get_or ns k 0 ≡ n + 1 → given ts ns ≡ n + 1
of_first [] ns n k f e = absurd (first_none f)
of_first (t ∷ ts) [] n k f e = absurd (omega arith)
of_first (true ∷ ts) (m ∷ ns) n zero f e = e
of_first (true ∷ ts) (m ∷ ns) n (suc k) f e = absurd (true≢false (f.above 0 (omega arith)))
of_first (false ∷ ts) (m ∷ ns) n zero f e = absurd (true≢false (sym f.here))
of_first (false ∷ ts) (m ∷ ns) n (suc k) f e = of_first ts ns n k (rest f) e

none_of : (ts : List Bool) (ns : List ℕ) → Numbered ts ns → given ts ns ≡ 0 → (k : ℕ) → get_or ts k false ≡ false
none_of [] ns h e k = refl
none_of (t ∷ ts) [] h e k = absurd h
none_of (t ∷ ts) (zero ∷ ns) h e k = absurd h
none_of (true ∷ ts) (suc n ∷ ns) h e k = absurd (omega arith)
none_of (false ∷ ts) (suc n ∷ ns) h e zero = refl
none_of (false ∷ ts) (suc n ∷ ns) h e (suc k) = none_of ts ns h e k

of_none : (ts : List Bool) (ns : List ℕ) → ((k : ℕ) → get_or ts k false ≡ false) → given ts ns ≡ 0
of_none [] ns h = refl
of_none (t ∷ ts) [] h = refl
of_none (true ∷ ts) (n ∷ ns) h = absurd (true≢false (h 0))
of_none (false ∷ ts) (n ∷ ns) h = of_none ts ns (λ k. h (suc k))

-- ---- the rows that no record reaches

module _ (rec : List ℕ) where
  codes : bad_codes (settings rec) ≡ false
  unfolding bad_codes settings settings_of fields_of
  codes = rw (le-ltb 3 (fields rec).constellation (omega arith), le-ltb 3 (fields rec).gain_code (omega arith)) refl

  long_grid : length (burst_of rec).grid ≡ 2 * grid_cells (settings rec)
  unfolding burst_of
  long_grid = length_tab _ (2 * grid_cells (settings rec))

  long_sigma : length (burst_of rec).sigma ≡ nc_of (settings rec)
  unfolding burst_of
  long_sigma = length_tab _ (nc_of (settings rec))

  long_cells : length (burst_of rec).cells ≡ ncell_of (settings rec)
  unfolding burst_of
  long_cells = length_tab _ (ncell_of (settings rec))

  grid : bad_grid (settings rec) (burst_of rec).grid ≡ false
  unfolding bad_grid
  grid = rw (eq-eqb _ _ long_grid) refl

  variances : bad_variances (settings rec) (burst_of rec).sigma (burst_of rec).cells ≡ false
  unfolding bad_variances
  variances = rw (eq-eqb _ _ long_sigma, eq-eqb _ _ long_cells) refl

-- ---- all rows but those

-- record, layout, codes, symbols, length, room and numbers; grid and variances never hold
by_rows : (r l c s n g v m x : Bool) → g ≡ false → v ≡ false
    → let shape : ℕ = cond r 12 (cond l 1 (cond c 2 (cond s 3 (cond n 12 0)))) in
    cond (eqb shape 0) (cond l 1 (cond c 2 (cond s 3 (cond g 4 (cond v 5 (cond m 6 (cond x 7 0))))))) shape
    ≡ given (r ∷ l ∷ c ∷ s ∷ n ∷ m ∷ x ∷ []) (12 ∷ 1 ∷ 2 ∷ 3 ∷ 12 ∷ 6 ∷ 7 ∷ [])
by_rows true l c s n g v m x eg ev = refl
by_rows false true c s n g v m x eg ev = refl
by_rows false false true s n g v m x eg ev = refl
by_rows false false false true n g v m x eg ev = refl
by_rows false false false false true g v m x eg ev = refl
by_rows false false false false false g v m x eg ev = rw (eg, ev) refl

module _ (rec : List ℕ) (room : Bool) where
  by_number : refusal_in rec room ≡ given (rows rec room) row_numbers
  unfolding refusal_in shape_refusal refusal_of rows row_numbers burst_of
  by_number =
      let s = settings rec in
      let b = burst_of rec in
      by_rows (bad_record rec) (bad_layout s) (bad_codes s) (bad_symbols s) (bad_length rec) (bad_grid s b.grid) (bad_variances s b.sigma b.cells) (not room)
      (bad_numbers s b.grid b.sigma b.cells (prior_of rec)) (grid rec) (variances rec)

  numbered : Numbered (rows rec room) row_numbers
  unfolding rows row_numbers
  numbered = tt

pub exact : Exact
exact = record {
  cause = λ rec room n. (
    λ e. first_of (rows rec room) row_numbers n (sym (by_number rec room) ∙ e),
    λ f. by_number rec room ∙ of_first (rows rec room) row_numbers n f.0 f.1 f.2,
  );
  none = λ rec room. (
    λ e. none_of (rows rec room) row_numbers (numbered rec room) (sym (by_number rec room) ∙ e),
    λ h. by_number rec room ∙ of_none (rows rec room) row_numbers h,
  );
  unreached = λ rec. record { codes = codes rec; grid = grid rec; variances = variances rec };
}
