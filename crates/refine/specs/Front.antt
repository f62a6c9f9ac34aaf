-- The path as the code goes it: from the priors to the loaded pilots.
use Rattle.std.specs.Prelude.{ℕ, ◌+◌, ◌*◌, ◌≤◌, ◌<◌, ◌≡◌, true, List, length, take, drop, Float}
use Rattle.bits.specs.Slots.{longest, slot_priors}
use Rattle.expect.specs.declared.Shape.{Shape}
use Rattle.expect.specs.Expect.{soft_cells, expected_of}
use Rattle.load.specs.Find.{found_at}
use Rattle.load.specs.Fit.{FitSource, places}
use Rattle.load.specs.Work.{Loads}
use Rattle.refine.specs.declared.settings.Plan.{Plan}

-- lists of just the length that the burst has
pub record Exact (m : Shape) (answer soft channel : List Float) : Type 0 where
  pub carriers : 1 ≤ m.dc
  pub few : m.dc ≤ 109
  pub bits : m.bps ≤ 6
  pub some : 0 < length answer
  pub most : length answer ≤ longest
  pub long_answer : length answer ≡ m.nsym * m.dc * m.bps
  pub long_soft : length soft ≡ m.nsym * m.dc * 3
  pub long_channel : length channel ≡ m.nsym * m.dc * 3

-- what is expected under n priors
pub record Expected (m : Shape) (unit prior : List Float) (n : ℕ) (soft channel : List Float) : Type 0 where
  pub cells : channel ≡ expected_of m unit (slot_priors n prior)
  pub points : m.spread ≡ true → soft ≡ soft_cells unit m.bps (m.nsym * m.dc) (slot_priors n prior)

-- three numbers a cell
abbrev pub cell_length : Plan → ℕ
cell_length p = p.shape.nsym * p.shape.dc * 3

-- what `listen` may count on
pub record Ready (p : Plan) (grid sigma cells answer channel wf : List Float) (wu : List ℕ) : Type 0 where
  pub small : places p.source ≤ 118156
  pub carriers : 1 ≤ p.shape.dc
  pub few : p.shape.dc ≤ 109
  pub bits : p.shape.bps ≤ 6
  pub some : 0 < length answer
  pub most : length answer ≤ longest
  pub long_answer : length answer ≡ p.shape.nsym * p.shape.dc * p.shape.bps
  pub long_channel : length channel ≡ cell_length p
  pub source : (expected : List Float) → length expected ≡ cell_length p → FitSource p.source sigma cells expected
  pub long_grid : 2 * places p.source ≤ length grid
  pub in_wf : 3 * places p.source + cell_length p ≤ length wf
  pub in_wu : 2 * places p.source + p.source.ng + 1 ≤ length wu

-- what it leaves: the expected values in the channel list, np pilots in the work lists, and past their numbers a
-- spread burst's soft points
pub record Listened (p : Plan) (unit prior : List Float) (n : ℕ) (grid sigma cells channel wf : List Float) (wu : List ℕ) (np : ℕ) : Type 0 where
  pub expected : channel ≡ expected_of p.shape unit (slot_priors n prior)
  pub points : p.shape.spread ≡ true
      → take (cell_length p) (drop (3 * places p.source) wf) ≡ soft_cells unit p.shape.bps (p.shape.nsym * p.shape.dc) (slot_priors n prior)
  pub loads : Loads p.source grid (found_at p.source sigma cells channel) wu (take (3 * places p.source) wf) np
