-- refine.rs, `BurstGrid::refine`, line by line, as a function of a burst and its priors.
unfoldable pub use Rattle.judge.specs.Fitted.{fitted_of, carrier_table, symbol_table}
use Rattle.std.specs.Prelude.{ℕ, ◌+◌, ◌*◌, ◌≤◌, ◌≡◌, cond, List, ◌++◌, length, get_or, drop, Float}
use Rattle.std.specs.Float.{nan}
use Rattle.std.specs.Float.Ieee.{ne}
use Rattle.seq.specs.Loop.{for}
use Rattle.seq.specs.Cat.{cat}
use Rattle.seq.specs.Tab.{tab}
use Rattle.elementary.specs.Gain.{gain_at}
use Rattle.bits.specs.Slots.{slot_priors, bit_order}
use Rattle.layout.specs.declared.layouts.Layout.{Layout}
use Rattle.layout.specs.Layouts.{layout_of}
use Rattle.layout.specs.Sizes.{data_carriers_of, ng_of, ncell_of, nbits_of}
use Rattle.points.specs.Constellation.{bps_of, points_of}
use Rattle.points.specs.Power.{scaled_of, mean_energy_of}
use Rattle.load.specs.declared.pilot.Pilot.{Pilot}
use Rattle.load.specs.declared.found.Found.{Found}
use Rattle.load.specs.declared.found.Source.{Source}
use Rattle.load.specs.Find.{found_at}
use Rattle.load.specs.Load.{loaded, start_of}
use Rattle.load.specs.Fit.{source_of}
use Rattle.est.specs.Estimate.{held_k}
use Rattle.est.specs.declared.combine.Estimate.{Estimate}
use Rattle.model.specs.Select.{select_model}
use Rattle.model.specs.declared.trial.Setting.{Setting}
use Rattle.model.specs.declared.select.Model.{Model}
use Rattle.expect.specs.declared.Shape.{Shape}
use Rattle.expect.specs.Expect.{soft_cells, expected_of}
use Rattle.judge.specs.Cells.{estimate_at, numbers_of}
use Rattle.judge.specs.Judge.{judged}
use Rattle.refine.specs.declared.settings.Settings.{Settings}
use Rattle.refine.specs.declared.whole.Refined.{Refined}

-- a burst as handed in, but for its priors: grid (re, im), sigma2 by carrier, cell_s2 by data cell
pub record Burst : Type 0 where
  pub settings : Settings
  pub grid : List Float
  pub sigma : List Float
  pub cells : List Float

abbrev pub burst : Settings → List Float → List Float → List Float → Burst
burst s grid sigma cells = record { settings = s; grid = grid; sigma = sigma; cells = cells }

module _ (b : Burst) where
  -- ---- let l = self.l; .. let es = ..; let dc = ..; let nbits = ncell * bps

  abbrev pub layout : Layout
  layout = layout_of b.settings.layout

  abbrev pub nsym : ℕ
  nsym = b.settings.nsym

  abbrev pub ng : ℕ
  ng = ng_of layout nsym

  abbrev pub bps : ℕ
  bps = bps_of b.settings.constellation

  -- let gain = mode.gain()
  abbrev pub gain : Float
  gain = gain_at b.settings.gain_code

  -- let pts = cons.points(); pts_s, each point times the gain
  abbrev pub pts : List Float
  pts = (points_of b.settings.constellation).pts

  -- let unit = if mode.spread { &pts } else { &pts_s }
  unfoldable pub unit : List Float
  unit = cond b.settings.spread pts (scaled_of pts gain)

  abbrev pub dc : ℕ
  dc = data_carriers_of layout b.settings.sparse

  abbrev pub ncell : ℕ
  ncell = ncell_of layout b.settings.sparse nsym

  abbrev pub nbits : ℕ
  nbits = nbits_of layout b.settings.sparse nsym bps

  abbrev pub shape : Shape
  shape = record { nsym = nsym; dc = dc; bps = bps; gain = gain; spread = b.settings.spread }

  -- what load_with's closure reads: map, boost, p_h, and es
  abbrev pub source : Source
  source = source_of layout b.settings.sparse b.settings.pilot_gain nsym b.settings.boost b.settings.p_h (mean_energy_of pts bps gain)

  -- est.k = k.clamp(1, est::KMAX)
  abbrev pub setting : Setting
  setting = record { l = layout; sparse = b.settings.sparse; ng = ng; k = held_k b.settings.k; p_h = b.settings.p_h }

  -- ---- from prior to likelihood

  module _ (prior : List Float) where
    -- sl
    unfoldable pub slots : List Float
    slots = slot_priors nbits prior

    -- xm, xv, as sent; em and ev are made of the soft points
    unfoldable pub expected : List Float
    expected = expected_of shape unit slots

    unfoldable pub soft_points : List Float
    soft_points = soft_cells unit bps ncell slots

    -- known(&map, c, g).map(|x| (x, sigma2[c])).or(soft[g * nc + c])
    unfoldable pub found : ℕ → ℕ → Found
    found = found_at source b.sigma b.cells expected

    -- est.load_with(&self.grid, ng, ..)
    unfoldable pub pilots : List Pilot
    pilots = loaded layout.nc b.grid found ng

    unfoldable pub starts : List ℕ
    starts = tab (ng + 1) (start_of layout.nc b.grid found)

    -- est.select_model(ng, p_h, fd)
    unfoldable pub model : Model
    model = select_model setting pilots starts

    -- (hbuf[cell], mbuf[cell]), under a model
    unfoldable pub estimate_under : Model → ℕ → Estimate
    estimate_under m = estimate_at source pilots starts (fitted_of setting m) (carrier_table setting m) (symbol_table setting m) b.cells expected

    unfoldable pub estimate : ℕ → Estimate
    estimate = estimate_under model

    unfoldable pub channel_of : List Float
    channel_of = cat ncell (λ cell. numbers_of (estimate cell))

    unfoldable pub slot_likelihoods : List Float
    slot_likelihoods = cat ncell (judged source shape unit soft_points b.grid b.cells estimate)

    -- (0..nbits).map(..).collect()
    unfoldable pub answer_of : List Float
    answer_of = bit_order nbits slot_likelihoods

-- ---- the answer's likelihoods that are not a number

unfoldable pub spoilt_turn : List Float → ℕ → ℕ → ℕ
spoilt_turn xs i n = let x = get_or xs i nan in cond (ne x x) (n + 1) n

unfoldable pub spoilt_of : ℕ → List Float → ℕ
spoilt_of n xs = for 0 n (spoilt_turn xs) 0

-- ---- what a call gives

unfoldable pub refined_of : Burst → List Float → Refined
refined_of b prior = record { model = model b prior; spoilt = spoilt_of (nbits b) (answer_of b prior) }

-- both work lists: nbits + 12 ng nc numbers
abbrev pub work_length : Burst → ℕ
work_length b = nbits b + 12 * (ng b * (layout b).nc)

pub record Fit (b : Burst) (answer channel wf : List Float) (wu : List ℕ) : Type 0 where
  pub gains : b.settings.gain_code ≤ 3
  pub some : 1 ≤ nsym b
  pub most : nsym b ≤ 1023
  pub long_grid : length b.grid ≡ 2 * (ng b * (layout b).nc)
  pub long_sigma : length b.sigma ≡ (layout b).nc
  pub long_cells : length b.cells ≡ ncell b
  pub in_answer : nbits b ≤ length answer
  pub in_channel : 3 * ncell b ≤ length channel
  pub in_wf : work_length b ≤ length wf
  pub in_wu : work_length b ≤ length wu

-- answer and channel list before and after
pub record Refines (b : Burst) (prior : List Float) (r : Refined) (answer₀ answer₁ channel₀ channel₁ : List Float) : Type 0 where
  pub result : r ≡ refined_of b prior
  pub answer : answer₁ ≡ answer_of b prior ++ drop (nbits b) answer₀
  pub channel : channel₁ ≡ channel_of b prior ++ drop (3 * ncell b) channel₀
