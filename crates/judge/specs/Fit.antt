-- What estimating and judging may count on.
use Rattle.std.specs.Prelude.{ℕ, ◌*◌, ◌≤◌, ◌≡◌, true, false, Option, Some, None, List, length, Float}
use Rattle.std.proofs.Props.{props}
use Rattle.layout.specs.declared.map.Map.{Map}
use Rattle.layout.specs.Fit.{FitMap, FitPhases}
use Rattle.layout.specs.Maps.{carriers_at}
use Rattle.spread.specs.Spreader.{twiddles_of}
use Rattle.load.specs.declared.found.Source.{Source}
use Rattle.load.specs.Fit.{ncell}
use Rattle.spread.specs.declared.spreader.Spreader.{Spreader}
use Rattle.est.specs.declared.estimator.Estimator.{Estimator}
use Rattle.expect.specs.declared.Shape.{Shape}
use Rattle.judge.specs.declared.spreading.Spreading.{Spreading}

-- the data symbols begin past symbol 0, and each has dc data cells
pub record FitCells (s : Source) : Type 0 where
  pub map : FitMap s.map
  pub symbols : s.ng ≤ 1084
  pub past_first : 1 ≤ s.map.hdr_end
  pub carriers : (g : ℕ) → s.map.hdr_end ≤ g → carriers_at s.map g ≡ s.dc
  pub some : 1 ≤ s.dc

-- an estimator over the burst's grid, by its channel's power
pub record Fits (s : Source) (e : Estimator) : Type 0 where
  pub cells : FitCells s
  pub nc : e.window.nc ≡ s.map.nc
  pub ng : e.window.ng ≡ s.ng
  pub power : e.p_h ≡ s.p_h

-- no two proofs of it differ, so a ghost field can hold it
FitPhases-prop : (nc : ℕ) → IsProp (FitPhases nc)
unfolding FitPhases
FitPhases-prop nc = Prim.hlevel props

FitMap-prop : (m : Map) → IsProp (FitMap m)
FitMap-prop m = Prim.hlevel (props, FitPhases-prop)

FitCells-prop : (s : Source) → IsProp (FitCells s)
FitCells-prop s = Prim.hlevel (props, FitMap-prop)

pub Fits-prop : (s : Source) (e : Estimator) → IsProp (Fits s e)
Fits-prop s e = Prim.hlevel (props, FitCells-prop)

-- what the equaliser reads besides
pub record FitSpread (s : Source) (sp : Spreader) (soft : List Float) : Type 0 where
  pub count : sp.m ≡ s.dc
  pub twiddles : sp.tw ≡ twiddles_of s.dc
  pub long_soft : ncell s * 3 ≤ length soft

-- it is there where the symbols are spread, and only there
abbrev pub FitSpreading : Source → Shape → Option Spreading → Type 0
FitSpreading s m (Some x) = (m.spread ≡ true) × FitSpread s x.spreader x.soft.now
FitSpreading s m None = m.spread ≡ false

FitSpread-prop : (s : Source) (sp : Spreader) (soft : List Float) → IsProp (FitSpread s sp soft)
FitSpread-prop s sp soft = Prim.hlevel props

pub FitSpreading-prop : (s : Source) (m : Shape) (o : Option Spreading) → IsProp (FitSpreading s m o)
FitSpreading-prop s m (Some x) = Prim.hlevel (props, FitSpread-prop)
FitSpreading-prop s m None = Prim.hlevel props
