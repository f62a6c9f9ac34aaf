-- The table of causes is exact: a call is given a row's number where that row turns it away and none above does, and
-- 0 where no row does. Proved in proofs/Exact.antt, and that bursts of every kind are accepted in
-- proofs/Accepting.antt.
use Rattle.std.specs.Prelude.{ℕ, ◌+◌, ◌*◌, ◌<◌, ◌≤◌, ◌≡◌, Bool, true, false, not, List, [], ◌∷◌, ◌↔◌, get_or, replicate, Float}
use Rattle.ieee.specs.Num.{zero32, one32}
use Rattle.refine.specs.Refine.{Burst, burst}
use Rattle.refine.specs.declared.settings.Settings.{Settings}
use Rattle.table.specs.Sizes.{nc_of, grid_cells, ncell_of, nbits_of, work_length}
use Rattle.table.specs.Rows.{bad_layout, bad_codes, bad_symbols, bad_grid, bad_variances, bad_numbers}
use Rattle.table.specs.Refusals.{refusal_of}
use Rattle.table.specs.Refusals.{refusal_in}

-- ---- exact

unfoldable pub rows : Burst → (prior : List Float) → (room : Bool) → List Bool
rows b prior room =
    let s = b.settings in
    bad_layout s
    ∷ bad_codes s
    ∷ bad_symbols s
    ∷ bad_grid s b.grid
    ∷ bad_variances s b.sigma b.cells
    ∷ not room
    ∷ bad_numbers s b.grid b.sigma b.cells prior
    ∷ []

-- row k, counted from 0, turns the call away, and none above it
pub record First (tests : List Bool) (k : ℕ) : Type 0 where
  pub here : get_or tests k false ≡ true
  pub above : (i : ℕ) → i < k → get_or tests i false ≡ false

pub record Exact : Type 0 where
  pub cause : (b : Burst) (prior : List Float) (room : Bool) (k : ℕ) → refusal_of b prior room ≡ k + 1 ↔ First (rows b prior room) k
  pub none : (b : Burst) (prior : List Float) (room : Bool) → refusal_of b prior room ≡ 0 ↔ ((k : ℕ) → get_or (rows b prior room) k false ≡ false)

-- ---- bursts that are accepted: a grid of zeros, variances, boost, pilot gain and p_h 1, no priors, lists just long
-- enough

abbrev pub plain : (layout constellation nsym : ℕ) → (sparse spread : Bool) → (gainCode k : ℕ) → Settings
plain layout constellation nsym sparse spread gainCode k =
    record {
      layout = layout;
      constellation = constellation;
      nsym = nsym;
      sparse = sparse;
      spread = spread;
      gain_code = gainCode;
      k = k;
      boost = one32;
      pilot_gain = one32;
      p_h = one32;
    }

abbrev pub silent : Settings → Burst
silent s = burst s (replicate (2 * grid_cells s) zero32) (replicate (nc_of s) one32) (replicate (ncell_of s) one32)

abbrev pub blank : ℕ → List Float
blank n = replicate n zero32

unfoldable pub SomeAccepted : Type 0
SomeAccepted =
    (layout constellation nsym : ℕ) (sparse spread : Bool) (gainCode k : ℕ)
    → layout ≤ 8 → constellation ≤ 3 → 1 ≤ nsym → nsym ≤ 1023 → gainCode ≤ 3
    → let s = plain layout constellation nsym sparse spread gainCode k in
    refusal_in (silent s) [] (blank (nbits_of s)) (blank (3 * ncell_of s)) (blank (work_length s)) (replicate (work_length s) 0) ≡ 0
