-- What a `Judge` holds keeps its bounds. Assumes nothing.
use Prim.Native.Nat.{ℕ, ◌+◌, ◌*◌, ◌%◌, ◌≤◌, ◌<◌}
use mathlib.Core.Path.{◌≡◌, refl}
use mathlib.Core.Bool.{true, false}
use Rattle.std.specs.Prelude.{Some, None}
use native.Mathlib.Nat.{mul-le-mul}
use native.Mathlib.Omega.{arith}
use Rattle.seq.specs.Cat.Laws.{stretch}
use Rattle.layout.specs.Fit.{FitMap}
use Rattle.layout.specs.Maps.{carriers_at}
use Rattle.load.specs.Fit.{ncell}
use Rattle.judge.specs.declared.symbol.Judge.{Judge}
use Rattle.load.specs.Fit.{places}
use Rattle.judge.specs.Cells.{symbol_of, carrier_of}
use Rattle.judge.specs.declared.spreading.Spreading.{Spreading}
use Rattle.judge.specs.Fit.{FitSpread}
use Rattle.judge.specs.Symbol.{InOrder, soft_points}
use Rattle.judge.proofs.Estimated.{inside, in_order}
use Rattle.judge.proofs.Placed.{placed, row_cell, row_within, row_all, few_carriers, few_places, few_cells}

pub narrow : (j : Judge) → j.source.dc ≤ 109
narrow j = few_carriers j.source j.fits.cells

few_bits : (j : Judge) → j.shape.bps ≤ 6
few_bits j = omega (arith, j.bits, j.points.now.few)

-- what a spread burst's symbols are equalised by is there, and fits; another's is not
pub equalized_with : (j : Judge) (x : Spreading) → j.spreading ≡ Some x → (j.shape.spread ≡ true) × FitSpread j.source x.spreader x.soft.now × (soft_points j.spreading ≡ x.soft.now)
equalized_with j x e = let f = rw e at j.spreads in (f.0, f.1, rw e refl)

pub unspread : (j : Judge) → j.spreading ≡ None → j.shape.spread ≡ false
unspread j e = rw e at j.spreads

-- where a data cell lies
pub record InGrid (j : Judge) (cell : ℕ) : Type 0 where
  pub symbol : symbol_of j.source cell < 1084
  pub place : symbol_of j.source cell * j.source.map.nc + carrier_of j.source cell < places j.source
  pub few : places j.source ≤ 118156

pub in_grid : (j : Judge) (cell : ℕ) → cell < ncell j.source → InGrid j cell
in_grid j cell h =
    let p = placed j.source j.fits.cells cell h in
    record { symbol = omega (arith, p.symbol, j.fits.cells.symbols); place = p.place; few = few_places j.source j.fits.cells }

-- what `data_carrier` asks
pub data_cell : (j : Judge) (cell : ℕ) → cell < ncell j.source
    → FitMap j.source.map × (1 ≤ symbol_of j.source cell) × (cell % j.source.dc < carriers_at j.source.map (symbol_of j.source cell))
data_cell j cell h =
    let fit = j.fits.cells in
    let p = placed j.source fit cell h in
    (fit.map, omega (arith, p.low, fit.past_first), rw (fit.carriers (symbol_of j.source cell) p.low) p.number)

-- and what the estimator does
pub estimable : (j : Judge) (cell : ℕ) → cell < ncell j.source
    → (carrier_of j.source cell < j.estimator.window.nc) × (symbol_of j.source cell < j.estimator.window.ng) × InOrder j.estimator.pilots (symbol_of j.source cell)
estimable j cell h =
    let p = placed j.source j.fits.cells cell h in
    let i = inside j.source j.estimator j.fits cell p _ _ refl refl in
    (i.0, i.1, in_order j.source j.estimator j.fits cell p _ _ refl refl)

-- cell k of a symbol has its part of the symbol's likelihoods
pub parted : (j : Judge) (k : ℕ) → k < j.source.dc → k * j.shape.bps + j.shape.bps ≤ j.source.dc * j.shape.bps
parted j k h = stretch k j.source.dc j.shape.bps _ h (omega arith)

-- cell k of data symbol t, by its number in the burst
pub record Numbered (j : Judge) (t k : ℕ) : Type 0 where
  pub within : t * j.source.dc + k < ncell j.source
  pub few : ncell j.source ≤ 118156

pub numbered : (j : Judge) (t k : ℕ) → j.source.map.hdr_end + t < j.source.ng → k < j.source.dc → Numbered j t k
numbered j t k ht hk = record { within = row_cell j.source j.fits.cells t k ht hk; few = few_cells j.source j.fits.cells }

-- data symbol t has its stretches of the lists of three numbers a cell and of bps numbers a cell
pub record Spans (j : Judge) (t : ℕ) : Type 0 where
  pub row : t * (j.source.dc * 3) + j.source.dc * 3 ≤ ncell j.source * 3
  pub out : t * (j.source.dc * j.shape.bps) + j.source.dc * j.shape.bps ≤ ncell j.source * j.shape.bps
  pub cells : t * j.source.dc + j.source.dc ≤ ncell j.source
  pub few : ncell j.source ≤ 118156
  pub few_out : ncell j.source * j.shape.bps ≤ 708936

pub spans : (j : Judge) (t : ℕ) → j.source.map.hdr_end + t < j.source.ng → Spans j t
spans j t h =
    record {
      row = row_within j.source j.fits.cells t 3 _ h (omega arith);
      out = row_within j.source j.fits.cells t j.shape.bps _ h (omega arith);
      cells = row_all j.source j.fits.cells t h;
      few = few_cells j.source j.fits.cells;
      few_out = mul-le-mul (few_cells j.source j.fits.cells) (few_bits j);
    }
