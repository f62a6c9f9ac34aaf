-- A data cell's own pilot is left out where its own expected value is loud; no other cell's value is looked at.
-- Assumes nothing.
use Prim.Native.Nat.{ℕ, ◌+◌, ◌-◌, ◌%◌, ◌<◌}
use mathlib.Core.Path.{◌≡◌, refl, sym, ap, ◌∙◌}
use mathlib.Core.Bool.{Bool, true, false, cond}
use mathlib.Core.List.{List}
use native.Mathlib.Omega.{arith}
use lib.Dec.{eqb}
use lib.ListN.{length, get_or}
use lib.Ieee.{Float}
use Rattle.seq.specs.Tab.Laws.{get_d_tab}
use Rattle.dsp.specs.declared.Complex.{Complex}
use Rattle.soft.specs.Soft.{loud_of}
use Rattle.load.specs.declared.pilot.Pilot.{Pilot}
use Rattle.load.specs.declared.found.Found.TheVariants.{Soft, Blank}
use Rattle.load.specs.declared.found.Source.{Source}
use Rattle.load.specs.Load.{nothing}
use Rattle.load.specs.Find.{mean_at, soft_cell}
use Rattle.load.specs.Fit.{ncell}
use Rattle.load.specs.Pilots.{pilot_at, pilots, Loaded}
use Rattle.load.proofs.Counted.{soft_there}
use Rattle.judge.specs.declared.estimates.Fitted.{Fitted}
use Rattle.judge.specs.Cells.{symbol_of, carrier_of, is_some, index_in, own_index, own_by, estimate_at, estimate_for}
use Rattle.judge.specs.Fit.{FitCells}
use Rattle.judge.proofs.Placed.{placed}
use Rattle.judge.proofs.Finding.{find_same}

-- the carriers alone say which pilot it is
pub index_by_carriers : (pc pg : List ℕ) (pf : List Float) (start : List ℕ) (nc ng : ℕ) → Loaded pc pg pf start nc ng (length pc) → (c g : ℕ) → g < ng
    → index_in (λ i. get_or pc i 0) start c g ≡ index_in (λ i. (get_or (pilots pc pg pf (length pc)) i nothing).c) start c g
index_by_carriers pc pg pf start nc ng l c g h =
    find_same (get_or start (g + 1) 0 - get_or start g 0) (get_or start g 0) (λ i. eqb (get_or pc i 0) c) (λ i. eqb (get_or (pilots pc pg pf (length pc)) i nothing).c c)
    (λ k b. ap (λ (p : Pilot). eqb p.c c) (sym (get_d_tab (pilot_at pc pg pf) (length pc) k nothing
    (omega (arith, l.order g (g + 1) (omega arith) (omega arith), l.order (g + 1) ng (omega arith) (omega arith), l.whole)))))

-- ---- the test through all cells of the symbol is that of the cell's own value

some_chosen : (b : Bool) (x : Complex) (v : Float) → is_some (cond b (Soft x v) Blank) ≡ b
some_chosen true x v = refl
some_chosen false x v = refl

module _ (s : Source) (cells expected : List Float) where
  some_loud : (cell : ℕ) → is_some (soft_cell s cells expected cell Blank) ≡ loud_of (mean_at expected cell) s.es
  unfolding soft_cell
  some_loud cell = some_chosen (loud_of (mean_at expected cell) s.es) _ _

  module _ (fit : FitCells s) (ps : List Pilot) (start : List ℕ) (cell : ℕ) (within : cell < ncell s) where
    pub own_counted : own_index s ps start cells expected (carrier_of s cell) (symbol_of s cell) ≡ own_by s ps start (mean_at expected cell) (carrier_of s cell) (symbol_of s cell)
    unfolding own_index own_by
    own_counted =
        let p = placed s fit cell within in
        let e = soft_there s fit.map fit.carriers (symbol_of s cell) p.low (omega (arith, fit.past_first)) cells expected (cell % s.dc) p.number in
        rw (e, p.same, some_loud cell)

    -- so is the estimate's
    pub estimate_own : (f : Fitted) (rf rt : List Float) → estimate_at s ps start f rf rt cells expected cell ≡ estimate_for s ps start f rf rt (mean_at expected cell) cell
    unfolding estimate_at estimate_for
    estimate_own f rf rt = rw own_counted
