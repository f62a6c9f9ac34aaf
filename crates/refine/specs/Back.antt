-- The path as the code goes it: from the loaded pilots to the likelihoods in slot order.
use Rattle.std.specs.Prelude.{ℕ, ◌+◌, ◌*◌, ◌≤◌, ◌≡◌, true, false, Option, Some, None, List, length, Float}
use Rattle.spread.specs.Spreader.{twiddles_of}
use Rattle.load.specs.declared.pilot.Pilot.{Pilot}
use Rattle.load.specs.declared.found.Source.{Source}
use Rattle.load.specs.Fit.{ncell, places}
use Rattle.load.specs.Pilots.{listed, OnGrid}
use Rattle.est.specs.declared.estimator.Estimator.{Estimator}
use Rattle.expect.specs.declared.Shape.{Shape}
use Rattle.model.specs.declared.select.Model.{Model}
use Rattle.model.specs.Values.{FitModels}
use Rattle.judge.specs.Fit.{FitCells, FitSpreading}
use Rattle.judge.specs.Symbol.{fitted_in, soft_points}
use Rattle.judge.specs.declared.spreading.Spreading.{Spreading}
use Rattle.judge.specs.Upto.{Upto}
use Rattle.refine.specs.declared.settings.Plan.{Plan}
use Rattle.refine.specs.declared.judging.Heard.{Heard}
use Rattle.refine.specs.Refine.{fitted_of, carrier_table, symbol_table}

-- the lists that the symbols are judged from and into
pub record Symbols (s : Source) (m : Shape) (grid cells channel answer : List Float) : Type 0 where
  pub count : s.ng ≡ s.map.hdr_end + m.nsym
  pub carriers : m.dc ≡ s.dc
  pub some : 1 ≤ m.dc
  pub few : m.dc ≤ 109
  pub bits : m.bps ≤ 6
  pub long_grid : 2 * places s ≤ length grid
  pub long_cells : ncell s ≤ length cells
  pub long_channel : ncell s * 3 ≤ length channel
  pub long_answer : ncell s * m.bps ≤ length answer

-- what symbols of this shape are equalised by, where they are spread
abbrev pub SpreadBy : Shape → (soft : List Float) → Option Spreading → Type 0
SpreadBy m soft (Some x) = (m.spread ≡ true) × (x.spreader.m ≡ m.dc) × (x.spreader.tw ≡ twiddles_of m.dc) × (x.soft.now ≡ soft)
SpreadBy m soft None = m.spread ≡ false

-- the parts of a plan are of one burst
pub record Agrees (p : Plan) : Type 0 where
  pub cells : FitCells p.source
  pub nc : p.setting.l.nc ≡ p.source.map.nc
  pub ng : p.setting.ng ≡ p.source.ng
  pub models : FitModels p.setting.l
  pub width : p.setting.l.gw ≤ 12
  pub some : 1 ≤ p.setting.k
  pub most : p.setting.k ≤ 40

-- the burst judged under model m: its channel list, which held the expected values e, and its answer
abbrev pub Under : Plan → Model → List Pilot → List ℕ → List Float → List Float → List Float → List Float → List Float → List Float → List Float → List Float → Type 0
Under p m ps start pts soft grid cells e a channel answer =
    Upto p.source p.shape (fitted_of p.setting m) ps start (carrier_table p.setting m) (symbol_table p.setting m) pts soft grid cells
    (p.shape.nsym * p.source.dc) e a channel answer

-- what was heard may be judged into these lists
pub record Judgeable (h : Heard) (channel answer : List Float) : Type 0 where
  pub agrees : Agrees h.plan
  pub loaded : OnGrid h.pilots h.plan.source.map.nc h.plan.source.ng
  pub symbols : Symbols h.plan.source h.plan.shape h.grid.now h.cells.now channel answer
  pub spreading : FitSpreading h.plan.source h.plan.shape h.spreading
  pub bits : h.unit.now.bps ≡ h.plan.shape.bps

abbrev pub JudgedWith : Heard → Estimator → (e a channel answer : List Float) → Type 0
JudgedWith h r e a channel answer =
    Upto h.plan.source h.plan.shape (fitted_in r) (listed r.pilots) r.pilots.start.now r.rf.now r.rt.now h.unit.now.pts (soft_points h.spreading) h.grid.now h.cells.now
    (h.plan.shape.nsym * h.plan.source.dc) e a channel answer

abbrev pub JudgedUnder : Heard → Model → (e a channel answer : List Float) → Type 0
JudgedUnder h m e a channel answer =
    Under h.plan m (listed h.pilots) h.pilots.start.now h.unit.now.pts (soft_points h.spreading) h.grid.now h.cells.now e a channel answer
