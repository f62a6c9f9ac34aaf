-- One cell's estimate: what it may count on, and that its parts make it. Assumes nothing.
use Prim.Native.Nat.{ℕ, ◌+◌, ◌≤◌, ◌<◌}
use mathlib.Core.Path.{◌≡◌, refl, ap, ◌∙◌}
use mathlib.Core.Bool.{cond}
use mathlib.Core.List.{List, [], ◌∷◌}
use native.Mathlib.Omega.{arith}
use lib.ListN.{length, get_or, set}
use lib.Ieee.{Float}
use Rattle.dsp.specs.declared.Complex.{Complex}
use Rattle.soft.specs.Soft.{loud_of}
use Rattle.load.specs.declared.found.Source.{Source}
use Rattle.load.specs.Load.{nowhere}
use Rattle.load.specs.Pilots.{listed, Loaded}
use Rattle.est.specs.declared.combine.Estimate.{Estimate}
use Rattle.est.specs.Estimator.{without_at}
use Rattle.est.specs.declared.estimator.Estimator.{Estimator}
use Rattle.judge.specs.Cells.{symbol_of, carrier_of, index_in, index_of, own_by, estimate_by, estimate_for, numbers_of}
use Rattle.judge.specs.Fit.{Fits}
use Rattle.judge.specs.Symbol.{InOrder, fitted_in}
use Rattle.judge.proofs.Placed.{Placed}
use Rattle.judge.proofs.Own.{index_by_carriers}

-- the pilots of symbol g are from start[g] to start[g + 1]
pub starts : {pc pg : List ℕ} {pf : List Float} {start : List ℕ} {nc ng n : ℕ} → Loaded pc pg pf start nc ng n → (g : ℕ) → g < ng
    → (g + 1 < length start) × (get_or start g 0 ≤ get_or start (g + 1) 0) × (get_or start (g + 1) 0 ≤ length pc)
starts {ng = ng} l g h =
    (omega (arith, l.long_start), l.order g (g + 1) (omega arith) (omega arith), omega (arith, l.order (g + 1) ng (omega arith) (omega arith), l.whole, l.long_pc))

three : (l : List Float) (a b d : Float) → length l ≡ 3 → set (set (set l 0 a) 1 b) 2 d ≡ a ∷ b ∷ d ∷ []
three [] a b d h = absurd (omega arith)
three (x ∷ []) a b d h = absurd (omega arith)
three (x ∷ y ∷ []) a b d h = absurd (omega arith)
three (x ∷ y ∷ z ∷ []) a b d h = refl
three (x ∷ y ∷ z ∷ u ∷ l) a b d h = absurd (omega arith)

module _ (s : Source) (e : Estimator) (fit : Fits s e) (cell : ℕ) (at : Placed s cell) (c g : ℕ) (ec : c ≡ carrier_of s cell) (eg : g ≡ symbol_of s cell) where
  pub inside : (c < e.window.nc) × (g < e.window.ng)
  inside = rw (ec, eg, fit.nc, fit.ng) (at.carrier, at.symbol)

  pub in_order : InOrder e.pilots g
  in_order = starts e.on_grid g inside.1

  module _ (x : Complex) (own : ℕ) (r : Estimate) where
    estimated : own ≡ cond (loud_of x s.es) (index_in (λ i. get_or e.pilots.c.now i 0) e.pilots.start.now c g) nowhere
        → r ≡ without_at e c g own
        → r ≡ estimate_for s (listed e.pilots) e.pilots.start.now (fitted_in e) e.rf.now e.rt.now x cell
    unfolding own_by index_of estimate_by estimate_for
    estimated eo er =
        rw (er, fit.power, eo, ec, eg, index_by_carriers e.pilots.c.now e.pilots.g.now e.pilots.f.now e.pilots.start.now e.window.nc e.window.ng e.on_grid (carrier_of s cell) (symbol_of s cell) (rw fit.ng at.symbol))

    -- its numbers, written over a stretch of three
    pub estimate_written : (l : List Float) → length l ≡ 3
        → own ≡ cond (loud_of x s.es) (index_in (λ i. get_or e.pilots.c.now i 0) e.pilots.start.now c g) nowhere
        → r ≡ without_at e c g own
        → set (set (set l 0 r.h.re) 1 r.h.im) 2 r.mse ≡ numbers_of (estimate_for s (listed e.pilots) e.pilots.start.now (fitted_in e) e.rf.now e.rt.now x cell)
    estimate_written l h eo er = three l r.h.re r.h.im r.mse h ∙ ap numbers_of (estimated eo er)
