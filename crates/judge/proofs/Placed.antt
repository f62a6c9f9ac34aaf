-- Where a data cell lies: within the grid, and at the place that the loader gives its number. Assumes nothing.
use Prim.Native.Nat.{ℕ, ◌+◌, ◌-◌, ◌*◌, ◌/◌, ◌%◌, ◌≤◌, ◌<◌}
use mathlib.Core.Path.{◌≡◌, ◌∙◌}
use native.Mathlib.Nat.{mod-lt, div-lt_iff_lt-mul, div-add-mod', mul-add-div_right, mul-add-mod_self_right, div-eq_of_lt, mod-eq_of_lt, mul-le-mul, mul_assoc}
use native.Mathlib.Omega.{arith}
use Rattle.seq.specs.Cat.Laws.{stretch}
use Rattle.layout.specs.Maps.{carriers_at}
use Rattle.load.specs.declared.found.Source.{Source}
use Rattle.load.specs.Fit.{ncell, places}
use Rattle.load.specs.Find.{cell_of}
use Rattle.load.proofs.Counted.{data_cells}
use Rattle.judge.specs.Cells.{symbol_of, carrier_of}
use Rattle.judge.specs.Fit.{FitCells}

pub record Placed (s : Source) (cell : ℕ) : Type 0 where
  pub number : cell % s.dc < s.dc
  pub low : s.map.hdr_end ≤ symbol_of s cell
  pub symbol : symbol_of s cell < s.ng
  pub carrier : carrier_of s cell < s.map.nc
  pub place : symbol_of s cell * s.map.nc + carrier_of s cell < places s
  pub same : cell_of s (symbol_of s cell) (cell % s.dc) ≡ cell

pub few_carriers : (s : Source) → FitCells s → s.dc ≤ 109
unfolding carriers_at
few_carriers s fit = omega (arith, fit.carriers s.map.hdr_end (omega arith), fit.map.few)

pub few_places : (s : Source) → FitCells s → places s ≤ 118156
few_places s fit = mul-le-mul fit.symbols fit.map.few

pub few_cells : (s : Source) → FitCells s → ncell s ≤ 118156
few_cells s fit = let ng : s.ng - s.map.hdr_end ≤ 1084 = omega (arith, fit.symbols) in mul-le-mul ng (few_carriers s fit)

module _ (s : Source) (fit : FitCells s) where
  pub placed : (cell : ℕ) → cell < ncell s → Placed s cell
  placed cell h =
      let some : 0 < s.dc = omega (arith, fit.some) in
      let t : cell / s.dc < s.ng - s.map.hdr_end = (div-lt_iff_lt-mul some).1 h in
      let j : cell % s.dc < s.dc = mod-lt cell some in
      let g : symbol_of s cell < s.ng = omega arith in
      let c = (data_cells s fit.map fit.carriers (symbol_of s cell) (omega arith) (omega (arith, fit.past_first))).within (cell % s.dc) j in
      let e : symbol_of s cell - s.map.hdr_end ≡ cell / s.dc = omega arith in
      record {
        number = j;
        low = omega arith;
        symbol = g;
        carrier = c;
        place = omega (arith, stretch (symbol_of s cell) s.ng s.map.nc (places s) g (omega arith));
        same = rw e (div-add-mod' cell s.dc);
      }

  -- cell j of data symbol t
  pub row_symbol : (t j : ℕ) → j < s.dc → (t * s.dc + j) / s.dc ≡ t
  row_symbol t j h = mul-add-div_right (omega arith) t j ∙ omega (arith, div-eq_of_lt h)

  pub row_number : (t j : ℕ) → j < s.dc → (t * s.dc + j) % s.dc ≡ j
  row_number t j h = mul-add-mod_self_right t s.dc j ∙ mod-eq_of_lt h

  pub row_cell : (t j : ℕ) → s.map.hdr_end + t < s.ng → j < s.dc → t * s.dc + j < ncell s
  row_cell t j ht h = omega (arith, stretch t (s.ng - s.map.hdr_end) s.dc (ncell s) (omega arith) (omega arith))

  -- its stretch of a list that has w numbers a cell
  pub row_within : (t w n : ℕ) → s.map.hdr_end + t < s.ng → ncell s * w ≤ n → t * (s.dc * w) + s.dc * w ≤ n
  row_within t w n ht h = stretch t (s.ng - s.map.hdr_end) (s.dc * w) n (omega arith) (rw mul_assoc at h)

  pub row_all : (t : ℕ) → s.map.hdr_end + t < s.ng → t * s.dc + s.dc ≤ ncell s
  row_all t ht = stretch t (s.ng - s.map.hdr_end) s.dc (ncell s) (omega arith) (omega arith)
