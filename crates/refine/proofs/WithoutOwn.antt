-- A data cell's estimate is made of what the burst loads with that cell blank. Assumes nothing.
use Prim.Native.Nat.{ℕ, ◌+◌, ◌*◌, ◌%◌, ◌≤◌, ◌<◌}
use mathlib.Core.Path.{◌≡◌, ap, ◌∙◌}
use mathlib.Core.Bool.{false, cond}
use mathlib.Core.List.{List}
use native.Mathlib.Nat.{mod-lt, div-lt_iff_lt-mul, mul-le-mul}
use native.Mathlib.Omega.{arith}
use lib.Ieee.{Float}
use Rattle.seq.specs.Tab.{tab}
use Rattle.ieee.specs.Num.{◌⊠◌}
use Rattle.layout.specs.Maps.{map_of, is_pilot}
use Rattle.layout.specs.Carriers.{Cells}
use Rattle.layout.proofs.Cells.{data_cells}
use Rattle.layout.proofs.Bounds.{bounds}
use Rattle.load.specs.declared.pilot.Pilot.{Pilot}
use Rattle.load.specs.declared.found.Found.{Found}
use Rattle.load.specs.declared.found.Source.{Source}
use Rattle.load.specs.Find.{soft_at, found_at}
use Rattle.load.specs.Load.{nowhere, loaded, start_of, pilot_index}
use Rattle.near.specs.Own.{remove_at, InOrder, among}
use Rattle.near.specs.declared.query.Query.{Query}
use Rattle.est.specs.Estimate.{estimate_of, estimate_without}
use Rattle.est.specs.Own.{EstimateWithoutOwn}
use Rattle.est.specs.declared.combine.Estimate.{Estimate}
use Rattle.est.proofs.Without.{estimate_without_own}
use Rattle.model.specs.declared.select.Model.{Model}
use Rattle.judge.specs.Cells.{symbol_of, carrier_of, is_some, query_of, index_of, own_index, estimate_by, estimate_at}
use Rattle.refine.specs.Refine.{Burst, layout, nsym, ng, dc, ncell, source, setting, fitted_of, carrier_table, symbol_table, expected, found, pilots, starts, estimate_under}
use Rattle.refine.proofs.Blanked.{without, own_gone}
use Rattle.refine.proofs.Ordered.{start_at, in_order}
use Rattle.refine.proofs.OwnPriors.{burst_bounds}
use Rattle.refine.proofs.Elsewhere.{soft_unknown}

-- (h, mse * self.mse_scale)
abbrev scaled : Float → Estimate → Estimate
scaled scale x = record { h = x.h; mse = x.mse ⊠ scale }

-- the index left out is that of the pilot which the loader made of the cell
module _ (s : Source) (sigma cells e : List Float) (nc : ℕ) (grid : List Float) (ng : ℕ) (c g : ℕ) (h : g < ng) (free : is_pilot s.map c g ≡ false) where
  abbrev v : ℕ → ℕ → Found
  v = found_at s sigma cells e

  found_soft : v c g ≡ soft_at s cells e c g
  unfolding found_at
  found_soft = rw free

  own_is : own_index s (loaded nc grid v ng) (tab (ng + 1) (start_of nc grid v)) cells e c g ≡ cond (is_some (v c g)) (pilot_index nc grid v ng c g) nowhere
  unfolding own_index index_of pilot_index
  own_is = rw (found_soft, start_at nc grid v ng (g + 1) (omega arith), start_at nc grid v ng g (omega arith))

  own_left : c < nc → ng * nc ≤ nowhere → remove_at (own_index s (loaded nc grid v ng) (tab (ng + 1) (start_of nc grid v)) cells e c g) (loaded nc grid v ng) ≡ loaded nc grid (without c g v) ng
  own_left hc room = rw own_is (own_gone nc grid v c g hc ng h room (rw found_soft (soft_unknown s cells e c g)))

module _ (b : Burst) (j : ℕ) where
  abbrev at_c : ℕ
  at_c = carrier_of (source b) j

  abbrev at_g : ℕ
  at_g = symbol_of (source b) j

  -- the pilots loaded with cell j blank
  abbrev pub others : List Float → List Pilot
  others p = loaded (layout b).nc b.grid (without at_c at_g (found b p)) (ng b)

  abbrev query : Model → Query
  query m = query_of (fitted_of (setting b) m) at_c at_g

  abbrev rf : Model → List Float
  rf m = carrier_table (setting b) m

  abbrev rt : Model → List Float
  rt m = symbol_table (setting b) m

  -- the estimate at cell j by a list of which none is left out, without and with the scale
  abbrev among_all : Model → List Pilot → Estimate
  among_all m l = estimate_of b.settings.p_h (rf m) (rt m) (query m) (fitted_of (setting b) m).w (among (query m) (fitted_of (setting b) m).w l)

  abbrev pub made_of : Model → List Pilot → Estimate
  made_of m l = scaled m.scale (among_all m l)

  module _ (few : nsym b ≤ 1023) (h : j < ncell b) where
    some_carrier : 0 < dc b
    some_carrier = omega (arith, (bounds.layout b.settings.layout b.settings.sparse).dc_low)

    symbol_in : at_g < ng b
    unfolding map_of
    symbol_in = omega (arith, (div-lt_iff_lt-mul {x = j} {y = nsym b} some_carrier).1 h)

    in_symbol : Cells (source b).map at_g (dc b)
    in_symbol = data_cells.«data» b.settings.layout b.settings.sparse b.settings.pilot_gain at_g (unfold map_of in omega arith)

    carrier_in : at_c < (layout b).nc
    carrier_in = unfold map_of in in_symbol.within (j % dc b) (mod-lt j some_carrier)

    free : is_pilot (source b).map at_c at_g ≡ false
    free = in_symbol.free (j % dc b) (mod-lt j some_carrier)

    room : ng b * (layout b).nc ≤ nowhere
    room = omega (arith, mul-le-mul (burst_bounds b few j h).ng_high (bounds.layout b.settings.layout b.settings.sparse).nc_high)

    module _ (p : List Float) where
      abbrev own : ℕ
      own = own_index (source b) (pilots b p) (starts b p) b.cells (expected b p) at_c at_g

      left : remove_at own (pilots b p) ≡ others p
      unfolding pilots starts found
      left = own_left (source b) b.sigma b.cells (expected b p) (layout b).nc b.grid (ng b) at_c at_g symbol_in free carrier_in room

      ordered : InOrder (pilots b p) (starts b p) (ng b)
      unfolding pilots starts
      ordered = in_order (layout b).nc b.grid (found b p) (ng b)

      pub made_of_others : (m : Model) → estimate_under b p m j ≡ made_of m (others p)
      unfolding estimate_under estimate_at estimate_by estimate_without EstimateWithoutOwn fitted_of
      made_of_others m =
          let w = estimate_without_own b.settings.p_h (rf m) (rt m) (query m) (fitted_of (setting b) m).w (pilots b p) (starts b p) own ordered symbol_in in
          ap (scaled m.scale) (w.among_others ∙ ap (among_all m) left)
