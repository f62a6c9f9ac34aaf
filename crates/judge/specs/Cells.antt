-- refine.rs, `refine`: the loop that fills hbuf and mbuf, by the number of the data cell.
use Rattle.std.specs.Prelude.{ℕ, ◌+◌, ◌-◌, ◌*◌, ◌/◌, ◌%◌, Bool, true, false, cond, List, [], ◌∷◌, eqb, get_or, Float}
use Rattle.std.specs.Float.{nan}
use Rattle.dsp.specs.declared.Complex.{Complex}
use Rattle.layout.specs.Carriers.{data_carrier}
use Rattle.soft.specs.Soft.{loud_of}
use Rattle.load.specs.declared.pilot.Pilot.{Pilot}
use Rattle.load.specs.declared.found.Found.{Found}
use Rattle.load.specs.declared.found.Found.TheVariants.{Known, Soft, Blank}
use Rattle.load.specs.declared.found.Source.{Source}
use Rattle.load.specs.Load.{sample_at, nothing, nowhere, find_in}
use Rattle.load.specs.Find.{mean_at, soft_at}
use Rattle.near.specs.declared.query.Query.{Query}
use Rattle.est.specs.Estimate.{estimate_without}
use Rattle.est.specs.declared.combine.Estimate.{Estimate}
use Rattle.judge.specs.declared.estimates.Fitted.{Fitted}

-- cell = (g - pre) * dc + j: its symbol g, its carrier dtab[g % per][j], and grid[g * nc + cc]
abbrev pub symbol_of : Source → ℕ → ℕ
symbol_of s cell = s.map.hdr_end + cell / s.dc

abbrev pub carrier_of : Source → ℕ → ℕ
carrier_of s cell = data_carrier s.map (symbol_of s cell) (cell % s.dc)

abbrev pub sample_of : Source → List Float → ℕ → Complex
sample_of s grid cell = sample_at grid (symbol_of s cell * s.map.nc + carrier_of s cell)

-- of `soft_at`, which finds nothing known
abbrev pub is_some : Found → Bool
is_some (Known x v) = true
is_some (Soft x v) = true
is_some Blank = false

-- the chosen model's units of distance, at carrier c of symbol g
abbrev pub query_of : Fitted → ℕ → ℕ → Query
query_of f c g = record { c = c; g = g; lc = f.u.lc; lg = f.u.lg }

-- (self.start[g]..self.start[g + 1]).find(|&i| self.pilots[i].c as usize == c), by the pilots' carriers
abbrev pub index_in : (ℕ → ℕ) → List ℕ → ℕ → ℕ → ℕ
index_in carrier start c g = find_in (get_or start (g + 1) 0 - get_or start g 0) (get_or start g 0) (λ i. eqb (carrier i) c)

module _ (s : Source) (ps : List Pilot) (start : List ℕ) where
  -- est.pilot_index(c, g).unwrap_or(usize::MAX)
  unfoldable pub index_of : ℕ → ℕ → ℕ
  index_of c g = index_in (λ i. (get_or ps i nothing).c) start c g

  -- let own = if soft[g * nc + c].is_some() { .. } else { usize::MAX }
  unfoldable pub own_index : List Float → List Float → ℕ → ℕ → ℕ
  own_index cells expected c g = cond (is_some (soft_at s cells expected c g)) (index_of c g) nowhere

  -- the same of a data cell by its own expected value x, as proofs/Own.antt proves
  unfoldable pub own_by : Complex → ℕ → ℕ → ℕ
  own_by x c g = cond (loud_of x s.es) (index_of c g) nowhere

  module _ (f : Fitted) (rf rt : List Float) where
    -- est.estimate_without(c, g, ng, p_h, own)
    unfoldable pub estimate_by : ℕ → ℕ → Estimate
    estimate_by own cell = estimate_without s.p_h rf rt (query_of f (carrier_of s cell) (symbol_of s cell)) f.w ps start f.scale own

    -- (hbuf[cell], mbuf[cell]) = ..
    unfoldable pub estimate_at : List Float → List Float → ℕ → Estimate
    estimate_at cells expected cell = estimate_by (own_index cells expected (carrier_of s cell) (symbol_of s cell)) cell

    unfoldable pub estimate_for : Complex → ℕ → Estimate
    estimate_for x cell = estimate_by (own_by x (carrier_of s cell) (symbol_of s cell)) cell

-- a cell's part of the channel list, and an estimate read from it
abbrev pub numbers_of : Estimate → List Float
numbers_of e = e.h.re ∷ e.h.im ∷ e.mse ∷ []

abbrev pub estimate_in : List Float → ℕ → Estimate
estimate_in channel j = record { h = mean_at channel j; mse = get_or channel (3 * j + 2) nan }
