-- The data cells of a symbol: the pilot rule is a comb and the top carrier, so their number and their places are the
-- comb's. Assumes nothing.
use Rattle.std.proofs.Common.{◌≡◌, ℕ, ◌+◌, ◌-◌, ◌*◌, ◌/◌, ◌%◌, ◌<◌, ◌≤◌, Bool, true, false, cond, T, [], ◌∷◌, length, sym, refl, ap, ◌∙◌, subst, mod-eq_of_lt, div-add-mod', arith, le-ltb, lt-ltb, eq-eqb, ne_eqb}
use native.Mathlib.Nat.{div-lt_self}
use lib.Ieee.{Float}
use borrow.Author.Tests.{eqb-false}
use Rattle.seq.specs.Cat.{cat}
use Rattle.seq.specs.Cat.Laws.{cat-same, cat_next}
use Rattle.layout.specs.declared.pattern.Pattern.{Pattern}
use Rattle.layout.specs.declared.layouts.Layout.{Layout}
use Rattle.layout.specs.declared.map.Map.{Map}
use Rattle.layout.specs.Layouts.{layout_of}
use Rattle.layout.specs.Patterns.{first_pilot, on_pattern, pilots_of}
use Rattle.layout.specs.Sizes.{pre_syms, pattern_of, data_carriers_of}
use Rattle.layout.specs.Maps.{map_of, pattern_at, is_pilot, carriers_at}
use Rattle.layout.specs.Carriers.{data_at, data_carriers, data_carrier, cell_index, Cells, DataCells}
use Rattle.layout.specs.Fit.{FitPattern, FitMap}
use Rattle.layout.proofs.Turns.{first_below}
use Rattle.layout.proofs.Fits.{layout_fits, map_fits, at_fits}
use Rattle.layout.proofs.Kept.{kept, kept_length, At, at_place, at_number, place_below, ascending}
use Rattle.layout.proofs.Comb.{tooth, times, whole_steps, index_low as gaps_low, index_high as gaps_high, spot, spot_low, spot_high, spot_index, spot_off, spot_below}

module _ (m : Map) (fit : FitMap m) (g : ℕ) (from : 1 ≤ g) where
  abbrev p : Pattern
  p = pattern_at m g

  abbrev step : ℕ
  step = p.step

  abbrev s : ℕ
  s = first_pilot p g

  abbrev pilot : ℕ → Bool
  pilot c = is_pilot m c g

  fits : FitPattern p m.nc
  fits = at_fits m fit g

  two : 2 ≤ step
  two = fits.turning.steps

  low : s < step
  low = first_below p fits.turning g

  rule : (c : ℕ) → c < m.nc - 1 → is_pilot m c g ≡ tooth step s c
  unfolding is_pilot on_pattern
  rule c h = rw (ne_eqb g 0 (λ e. omega arith), ne_eqb c (m.nc - 1) (λ e. omega arith))

  top : is_pilot m (m.nc - 1) g ≡ true
  unfolding is_pilot on_pattern
  top = rw (ne_eqb g 0 (λ e. omega arith), eq-eqb (m.nc - 1) (m.nc - 1) refl)

  -- the cells up to the top carrier are the comb's
  comb : (c : ℕ) → c ≤ m.nc - 1 → cat c (data_at m g) ≡ cat c (kept (tooth step s))
  comb c h = cat-same c (data_at m g) (kept (tooth step s)) (λ i b. ap (λ (t : Bool). cond t [] (i ∷ [])) (rule i (omega arith)))

  steps : (m.nc - 1) / step * step ≡ m.nc - 1
  steps = omega (arith, div-add-mod' (m.nc - 1) step, fits.whole)

  count : length (data_carriers m g) ≡ carriers_at m g
  unfolding data_carriers carriers_at pilots_of
  count =
      let k = (m.nc - 1) / step in
      let e : m.nc ≡ m.nc - 1 + 1 = omega (arith, fits.some) in
      let n : length (cat m.nc (data_at m g)) ≡ length (cat (m.nc - 1) (data_at m g)) =
      ap (λ (z : ℕ). length (cat z (data_at m g))) e ∙ cat_next (data_at m g) (m.nc - 1) ∙ omega (arith, kept_length pilot (m.nc - 1) true top) in
      n ∙ ap length (comb (m.nc - 1) (omega arith)) ∙ ap (λ (z : ℕ). length (cat z (kept (tooth step s)))) (sym steps) ∙ whole_steps step s two low k
      ∙ omega (arith, times step s two low k, steps, fits.some)

  at : (j : ℕ) → j < carriers_at m g → At pilot m.nc j (data_carrier m g j)
  unfolding data_carrier data_carriers
  at j h = at_place pilot m.nc j (omega (arith, count))

  pub cells : Cells m g (carriers_at m g)
  unfolding data_carrier data_carriers cell_index
  cells = record {
    count = count;
    within = λ j h. (at j h).within;
    free = λ j h. (at j h).left;
    index = λ j h. (at j h).index;
    ascending = λ i j h h'. ascending pilot m.nc i j (data_carrier m g i) (data_carrier m g j) h (at i (omega arith)) (at j h');
    below = λ c h e. omega (arith, count, place_below pilot m.nc c h e);
    carrier = λ c h e. (at_number pilot m.nc c h e).same;
  }

  -- ---- the closed forms

  carrier_is : (j : ℕ) → j < carriers_at m g → data_carrier m g j ≡ spot step s j
  unfolding cell_index carriers_at pilots_of
  carrier_is j h =
      let k = (m.nc - 1) / step in
      let c = spot step s j in
      let b : c < m.nc - 1 = omega (arith, spot_below step s two low k j (omega (arith, times step s two low k, steps)), steps) in
      let i : cell_index m g c ≡ j = ap length (comb c (omega arith)) ∙ spot_index step s two low j in
      let o : is_pilot m c g ≡ false = rule c b ∙ ne_eqb (c % step) s (spot_off step s two low j) in
      ap (data_carrier m g) (sym i) ∙ cells.carrier c (omega arith) o

  pub carrier_low : (j : ℕ) → j < carriers_at m g → j < s → j ≡ data_carrier m g j
  carrier_low j h l = sym (carrier_is j h ∙ spot_low step s two low j l)

  pub carrier_high : (j : ℕ) → j < carriers_at m g → s ≤ j → j + 1 + (j - s) / (step - 1) ≡ data_carrier m g j
  carrier_high j h l = sym (carrier_is j h ∙ spot_high step s two low j l)

  pub carrier_fits : (j : ℕ) → j < carriers_at m g → s ≤ j → j + 1 + (j - s) / (step - 1) < m.nc
  carrier_fits j h l = rw (carrier_high j h l) (cells.within j h)

  pub carrier_few : (j : ℕ) → j < carriers_at m g → j + 1 ≤ 109
  unfolding carriers_at
  carrier_few j h = omega (arith, fit.few)

  -- a data carrier is below the top, and no tooth
  module _ (c : ℕ) (h : c < m.nc) (o : is_pilot m c g ≡ false) where
    under : c < m.nc - 1
    under =
        let n : c ≡ m.nc - 1 → ⊥ = λ e. subst T (sym (ap (λ (z : ℕ). is_pilot m z g) e ∙ top) ∙ o) tt in
        omega arith

    off : c % step ≡ s → ⊥
    off = eqb-false (c % step) s (sym (rule c under) ∙ o)

    pub index_low : c < s → c ≡ cell_index m g c
    unfolding cell_index
    index_low l = sym (ap length (comb c (omega (arith, under))) ∙ gaps_low step s two low c l)

    pub index_high : s ≤ c → c - 1 - (c - s) / step ≡ cell_index m g c
    unfolding cell_index
    index_high l = sym (ap length (comb c (omega (arith, under))) ∙ gaps_high step s two low c l off)

    -- what is taken from c is there
    pub index_takes : s ≤ c → (1 ≤ c) × ((c - s) / step ≤ c - 1)
    index_takes l =
        let n : c ≡ s → ⊥ = λ e. off (ap (λ (z : ℕ). z % step) e ∙ mod-eq_of_lt low) in
        omega (arith, div-lt_self {n = c - s} {k = step} (omega arith) two)

    pub index_above : s ≤ c → 1 ≤ c
    index_above l = (index_takes l).0

-- ---- the nine layouts

module _ (l : Layout) (sparse : Bool) (gain : Float) (g : ℕ) where
  pub carriers_header : g < pre_syms l → carriers_at (map_of l sparse gain) g ≡ data_carriers_of l false
  unfolding carriers_at pattern_at map_of data_carriers_of pattern_of
  carriers_header h = rw (lt-ltb g (pre_syms l) h)

  pub carriers_data : pre_syms l ≤ g → carriers_at (map_of l sparse gain) g ≡ data_carriers_of l sparse
  unfolding carriers_at pattern_at map_of data_carriers_of
  carriers_data h = rw (le-ltb g (pre_syms l) h)

pub data_cells : DataCells
data_cells = record {
  header = λ number sparse gain g h h'. rw (carriers_header (layout_of number) sparse gain g h') at (every number sparse gain g h);
  «data» = λ number sparse gain g h. rw (carriers_data (layout_of number) sparse gain g h) at (every number sparse gain g (omega arith));
}
  where
    every : (number : ℕ) (sparse : Bool) (gain : Float) (g : ℕ) → 1 ≤ g → Cells (map_of (layout_of number) sparse gain) g (carriers_at (map_of (layout_of number) sparse gain) g)
    every number sparse gain = cells (map_of (layout_of number) sparse gain) (map_fits (layout_of number) (layout_fits number) sparse gain)
