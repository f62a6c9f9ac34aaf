-- A burst whose lists fit is one that every step of the path takes. Assumes nothing.
use Prim.Native.Nat.{ℕ, ◌-◌, ◌*◌, ◌≤◌, ◌<◌}
use mathlib.Core.Path.{◌≡◌, refl, ◌∙◌}
use mathlib.Core.List.{List}
use native.Mathlib.Nat.{mul-le-mul}
use native.Mathlib.Omega.{arith}
use lib.ListN.{length, take}
use lib.Seq.{length-take-le}
use lib.Ieee.{Float}
use Rattle.layout.specs.Layouts.{layout_of}
use Rattle.layout.specs.Maps.{map_of}
use Rattle.layout.specs.Sizes.{LayoutBounds, BurstBounds, pre_syms, data_carriers_of, ncell_of}
use Rattle.points.specs.Constellation.{bps_of}
use Rattle.layout.proofs.Bounds.{bounds}
use Rattle.points.proofs.Laws.{points_laws}
use Rattle.load.specs.Fit.{FitSource}
use Rattle.load.proofs.Sources.{source_fits}
use Rattle.est.specs.Estimate.{held_k}
use Rattle.model.proofs.Models.{models_fit}
use Rattle.refine.specs.Refine.{Burst, layout, nsym, ng, dc, bps, ncell, nbits, Fit}
use Rattle.refine.specs.declared.settings.Settings.{Settings}
use Rattle.refine.specs.Plan.{plan_for}
use Rattle.refine.specs.Front.{cell_length, Ready}
use Rattle.refine.specs.Back.{Agrees, Symbols}
use Rattle.refine.specs.Whole.{ExactFit}

held : (k : ℕ) → (1 ≤ held_k k) × (held_k k ≤ 40)
unfolding held_k
held k = (omega arith, omega arith)

fewer : (b : Burst) → dc b ≤ (layout b).nc
unfolding data_carriers_of
fewer b = omega arith

pub cells_places : (b : Burst) → ncell b ≤ ng b * (layout b).nc
cells_places b = mul-le-mul {n₁ = nsym b} {n₂ = ng b} (omega arith) (fewer b)

module _ (b : Burst) (answer channel wf : List Float) (wu : List ℕ) (x : ExactFit b answer channel wf wu) where
  f : Fit b answer channel wf wu
  f = x.fit

  of_layout : LayoutBounds (layout b) b.settings.sparse
  of_layout = bounds.layout b.settings.layout b.settings.sparse

  of_burst : BurstBounds (layout b) b.settings.sparse (nsym b) (bps b)
  of_burst =
      bounds.burst b.settings.layout b.settings.sparse (nsym b) (bps b) f.some f.most
      (points_laws b.settings.constellation).fewest (points_laws b.settings.constellation).most

  few_places : ng b * (layout b).nc ≤ 118156
  few_places = mul-le-mul of_burst.ng_high of_layout.nc_high

  symbols_places : ng b ≤ ng b * (layout b).nc
  symbols_places = omega (arith, mul-le-mul {n₁ = ng b} {m₁ = 5} {n₂ = ng b} {m₂ = (layout b).nc} (omega arith) of_layout.nc_low)

  source_ready : (expected : List Float) → length expected ≡ cell_length (plan_for b.settings) → FitSource (plan_for b.settings).source b.sigma b.cells expected
  source_ready e h =
      source_fits b.settings.layout b.settings.sparse b.settings.pilot_gain (nsym b) b.settings.boost b.settings.p_h _ b.sigma b.cells e f.most
      (omega (arith, f.long_sigma)) (omega (arith, f.long_cells)) (omega (arith, h))

  pub ready : Ready (plan_for b.settings) b.grid b.sigma b.cells answer channel wf wu
  unfolding map_of
  ready =
      record {
        small = few_places;
        carriers = omega (arith, of_layout.dc_low);
        few = omega (arith, of_layout.dc_high);
        bits = (points_laws b.settings.constellation).most;
        some = omega (arith, x.whole_answer, of_burst.nbits_low);
        most = omega (arith, x.whole_answer, of_burst.nbits_high);
        long_answer = x.whole_answer;
        long_channel = omega (arith, x.whole_channel);
        source = source_ready;
        long_grid = omega (arith, f.long_grid);
        in_wf = omega (arith, f.in_wf, cells_places b);
        in_wu = omega (arith, f.in_wu, symbols_places, of_burst.nbits_low);
      }

  pub agrees : Agrees (plan_for b.settings)
  unfolding map_of
  agrees =
      let s = source_ready channel (omega (arith, x.whole_channel)) in
      record {
        cells = record { map = s.map; symbols = s.symbols; past_first = omega (arith, of_layout.pre_low); carriers = s.carriers; some = omega (arith, of_layout.dc_low) };
        nc = refl;
        ng = refl;
        models = models_fit b.settings.layout;
        width = omega (arith, of_layout.gw_is);
        some = (held b.settings.k).0;
        most = (held b.settings.k).1;
      }

  -- whatever channel and answer hold by now
  pub symbols : (channel₁ answer₁ : List Float) → length channel₁ ≡ length channel → length answer₁ ≡ length answer
      → Symbols (plan_for b.settings).source (plan_for b.settings).shape b.grid b.cells channel₁ answer₁
  unfolding map_of
  symbols channel₁ answer₁ hc ha =
      let n : ng b - pre_syms (layout b) ≡ nsym b = omega arith in
      record {
        count = refl;
        carriers = refl;
        some = omega (arith, of_layout.dc_low);
        few = omega (arith, of_layout.dc_high);
        bits = (points_laws b.settings.constellation).most;
        long_grid = omega (arith, f.long_grid);
        long_cells = rw n (omega (arith, f.long_cells));
        long_channel = rw n (omega (arith, hc, x.whole_channel));
        long_answer = rw n (omega (arith, ha, x.whole_answer));
      }

  -- the work list has room for as many numbers as the answer has
  pub room_left : (0 < length answer) × (length answer ≤ 607662) × (length answer ≤ length wf)
  room_left = (ready.some, ready.most, omega (arith, x.whole_answer, f.in_wf))

-- ---- sizes by the settings

module _ (s : Settings) (low : 1 ≤ s.nsym) (high : s.nsym ≤ 1023) where
  sized : BurstBounds (layout_of s.layout) s.sparse s.nsym (bps_of s.constellation)
  sized = bounds.burst s.layout s.sparse s.nsym (bps_of s.constellation) low high (points_laws s.constellation).fewest (points_laws s.constellation).most

  pub cells_most : ncell_of (layout_of s.layout) s.sparse s.nsym ≤ 101277
  cells_most = sized.ncell_high

-- ---- the parts of answer and channel list that the burst has

pub exact_fit : (b : Burst) (answer channel wf : List Float) (wu : List ℕ) → Fit b answer channel wf wu → (n c : ℕ) → n ≡ nbits b → c ≡ 3 * ncell b
    → ExactFit b (take n answer) (take c channel) wf wu
exact_fit b answer channel wf wu f n c en ec =
    let ha = length-take-le n answer (omega (arith, en, f.in_answer)) in
    let hc = length-take-le c channel (omega (arith, ec, f.in_channel)) in
    record {
      fit = record {
        gains = f.gains;
        some = f.some;
        most = f.most;
        long_grid = f.long_grid;
        long_sigma = f.long_sigma;
        long_cells = f.long_cells;
        in_answer = omega (arith, ha, en);
        in_channel = omega (arith, hc, ec);
        in_wf = f.in_wf;
        in_wu = f.in_wu;
      };
      whole_answer = ha ∙ en;
      whole_channel = hc ∙ ec;
    }
