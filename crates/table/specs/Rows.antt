-- Document 01's causes for turning a burst away, a definition a row: true where the row turns the call away.
use Rattle.std.specs.Prelude.{ℕ, ◌*◌, Bool, true, not, Option, Some, None, ◌&&◌, ◌||◌, List, length, take, ltb, leb, eqb, Float}
use Rattle.std.specs.Float.{binary32}
use Rattle.std.specs.Float.Ieee.{of_bits, lt, le}
use Rattle.ieee.specs.Num.{zero32}
use Rattle.ieee.specs.Order.{is_finite}
use Rattle.scan.specs.Fine.{all, is_variance}
use Rattle.refine.specs.declared.settings.Settings.{Settings}
use Rattle.table.specs.declared.sizes.Lent.{Lent}
use Rattle.table.specs.Sizes.{nc_of, grid_cells, ncell_of, nbits_of, work_length}

-- ---- which of the settings' numbers are fine

-- finite and above 0: -0 is no power
unfoldable pub is_power : Float → Bool
is_power x = lt zero32 x && is_finite x

abbrev pub eighth32 : Float
eighth32 = of_bits binary32 0x3e00_0000

abbrev pub eight32 : Float
eight32 = of_bits binary32 0x4100_0000

-- 0.125..8, both ends inside; what lies there is finite
unfoldable pub is_level : Float → Bool
is_level x = le eighth32 x && le x eight32

-- ---- the rows

-- a list of so many numbers has room for n; one that is not lent is not written
unfoldable pub holds : (n : ℕ) → Option ℕ → Bool
holds n None = true
holds n (Some k) = leb n k

module _ (s : Settings) where
  -- 1: layout above 8
  unfoldable pub bad_layout : Bool
  bad_layout = ltb 8 s.layout

  -- 2: constellation or gain code above 3
  unfoldable pub bad_codes : Bool
  bad_codes = ltb 3 s.constellation || ltb 3 s.gain_code

  -- 3: nsym 0 or above 1,023
  unfoldable pub bad_symbols : Bool
  bad_symbols = eqb s.nsym 0 || ltb 1023 s.nsym

  -- 4: grid not 2 × ng × nc numbers
  unfoldable pub bad_grid : (grid : List Float) → Bool
  bad_grid grid = not (eqb (length grid) (2 * grid_cells s))

  -- 5: variances not nc and ncell numbers
  unfoldable pub bad_variances : (sigma cells : List Float) → Bool
  bad_variances sigma cells = not (eqb (length sigma) (nc_of s)) || not (eqb (length cells) (ncell_of s))

  -- 6, where this does not hold of a refinement: room in the answer, the channel list and both lists of the work area
  unfoldable pub room_for : Lent → Bool
  room_for lent =
      holds (nbits_of s) lent.answer
      && (holds (3 * ncell_of s) lent.channel
      && (leb (work_length s) lent.wf
      && leb (work_length s) lent.wu))

  -- 7: boost or pilot gain outside 0.125..8, p_h not above 0,
  unfoldable pub bad_settings : Bool
  bad_settings = not (is_level s.boost) || (not (is_level s.pilot_gain) || not (is_power s.p_h))

  -- or a number not finite (priors: the first nbits), a variance below 0
  unfoldable pub bad_numbers : (grid sigma cells prior : List Float) → Bool
  bad_numbers grid sigma cells prior =
      not (all is_finite grid)
      || (not (all is_variance sigma)
      || (not (all is_variance cells)
      || (not (all is_finite (take (nbits_of s) prior))
      || bad_settings)))
