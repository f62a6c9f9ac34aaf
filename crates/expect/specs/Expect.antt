-- refine.rs, `refine`: the expected value and variance of every data cell as sent, line by line. A cell is three
-- numbers: re, im, variance.
use Rattle.std.specs.Prelude.{ℕ, ◌+◌, ◌*◌, cond, List, [], ◌∷◌, get_or, take, drop, Float}
use Rattle.std.specs.Float.{nan}
use Rattle.seq.specs.Loop.{for}
use Rattle.seq.specs.Cat.{cat}
use Rattle.ieee.specs.Num.{◌⊞◌, ◌⊠◌, ◌⧄◌, f32_of}
use Rattle.dsp.specs.declared.Complex.{Complex}
use Rattle.dsp.specs.Arithmetic.{complex, scaleᶜ}
use Rattle.points.specs.Power.{minus_zero}
use Rattle.soft.specs.Soft.{soft_point}
use Rattle.spread.specs.Flat.{complex_at, flat}
use Rattle.spread.specs.Spreader.{twiddles_of, forward_of}
use Rattle.expect.specs.declared.Shape.{Shape}

abbrev pub cell_numbers : Complex → Float → List Float
cell_numbers x v = x.re ∷ x.im ∷ v ∷ []

-- ---- the soft points: xm and xv

-- (*m, *v) = soft_point(&sl[cell * bps..(cell + 1) * bps], unit)
unfoldable pub soft_at : List Float → ℕ → List Float → ℕ → List Float
soft_at unit bps sl cell =
    let s = soft_point (take bps (drop (cell * bps) sl)) unit bps in
    cell_numbers s.mean s.var

unfoldable pub soft_cells : List Float → ℕ → ℕ → List Float → List Float
soft_cells unit bps ncell sl = cat ncell (soft_at unit bps sl)

-- ---- symbol t of a spread burst, from the soft points

abbrev pub mean_at : List Float → ℕ → Complex
mean_at soft cell = complex (get_or soft (3 * cell) nan) (get_or soft (3 * cell + 1) nan)

abbrev pub var_at : List Float → ℕ → Float
var_at soft cell = get_or soft (3 * cell + 2) nan

-- *v = v.scale(gain); var.fill(mv)
abbrev pub scaled_at : Float → Float → List Float → ℕ → List Float
scaled_at gain mv row j = cell_numbers (scaleᶜ (complex_at row j) gain) mv

unfoldable pub scaled_cells : ℕ → Float → Float → List Float → List Float
scaled_cells dc gain mv row = cat dc (scaled_at gain mv row)

module _ (dc : ℕ) (soft : List Float) (t : ℕ) where
  -- row of xm.chunks_exact_mut(dc), and of em
  unfoldable pub row_means : List Float
  row_means = cat dc (λ j. flat (mean_at soft (t * dc + j)))

  unfoldable pub sum_turn : ℕ → Float → Float
  sum_turn j sum = sum ⊞ var_at soft (t * dc + j)

  -- var.iter().sum::<f32>(), which starts from -0.0
  unfoldable pub row_sum : Float
  row_sum = for 0 dc sum_turn minus_zero

  -- ev[t]: v.iter().sum::<f32>() / dc as f32
  unfoldable pub row_variance : Float
  row_variance = row_sum ⧄ f32_of dc

  -- sp.forward(row)
  unfoldable pub spread_means : List Float
  spread_means = forward_of dc (twiddles_of dc) row_means

  -- mv = g2 * var.iter().sum::<f32>() / dc as f32, with g2 = gain * gain
  unfoldable pub spread_variance : Float → Float
  spread_variance gain = gain ⊠ gain ⊠ row_sum ⧄ f32_of dc

  unfoldable pub spread_row : Float → List Float
  spread_row gain = scaled_cells dc gain (spread_variance gain) spread_means

unfoldable pub respread : ℕ → Float → ℕ → List Float → List Float
respread dc gain nsym soft = cat nsym (λ t. spread_row dc soft t gain)

-- ---- as sent: the symbols of a spread burst spread again
unfoldable pub expected_of : Shape → List Float → List Float → List Float
expected_of s unit sl =
    let soft = soft_cells unit s.bps (s.nsym * s.dc) sl in
    cond s.spread (respread s.dc s.gain s.nsym soft) soft
