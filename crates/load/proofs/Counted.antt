-- What the loader finds: a known value wins, and a data cell is found by its number. Assumes nothing.
use Prim.Native.Nat.{ℕ, zero, suc, ◌+◌, ◌-◌, ◌≤◌, ◌<◌}
use mathlib.Core.Path.{◌≡◌, refl, sym, ap, ◌∙◌}
use mathlib.Core.Bool.{Bool, true, false, cond}
use mathlib.Core.List.{List}
use native.Mathlib.Decide.{dec_lt}
use native.Mathlib.Nat.{mul-le-mul}
use native.Mathlib.Omega.{arith}
use lib.ListN.{get_or}
use lib.Ieee.{Float, nan}
use borrow.Author.Tests.{eq-eqb, ne_eqb, lt-ltb, le-ltb}
use Rattle.seq.specs.Loop.{for}
use Rattle.seq.specs.Loop.Laws.{for_next, for_all}
use Rattle.seq.specs.Cat.Laws.{stretch}
use Rattle.layout.specs.declared.map.Map.{Map}
use Rattle.layout.specs.Maps.{is_pilot, carriers_at}
use Rattle.layout.specs.Known.{known_value}
use Rattle.layout.specs.Fit.{FitMap}
use Rattle.layout.specs.Carriers.{data_carrier, cell_index, Cells}
use Rattle.layout.proofs.Cells.{cells as cells_fit}
use Rattle.load.specs.declared.found.Found.TheVariants.{Known, Blank}
use Rattle.load.specs.declared.found.Source.{Source}
use Rattle.load.specs.Find.{cell_of, soft_cell, soft_step, soft_at, soft_counted, found_at, found_counted}
use Rattle.load.specs.Fit.{FitSource, ncell}

-- a loop of which only turn k does anything
only : {S : Type 0} (f : ℕ → S → S) (s : S) (k d : ℕ) → ((i : ℕ) (t : S) → i < k + 1 + d → (i ≡ k → ⊥) → f i t ≡ t) → for 0 (k + 1 + d) f s ≡ f k s
only {S} f s k zero idle =
    let e : k + 1 + 0 ≡ k + 1 = omega arith in
    let before : for 0 k f s ≡ s = for_all (λ (t : S). t ≡ s) f 0 k s (λ i t u v q. idle i t (omega arith) (λ z. omega arith) ∙ q) refl in
    rw (e, for_next f 0 k s (omega arith), before)
only f s k (suc d) idle =
    let e : k + 1 + suc d ≡ k + 1 + d + 1 = omega arith in
    rw (e, for_next f 0 (k + 1 + d) s (omega arith)) (idle (k + 1 + d) _ (omega arith) (λ z. omega arith) ∙ only f s k d (λ i t u v. idle i t (omega arith) v))

-- symbol 0 is all known
pub past_first : (m : Map) (c g : ℕ) → is_pilot m c g ≡ false → 1 ≤ g
unfolding is_pilot
past_first m c zero h = absurd (omega (arith, ap {B = ℕ} (λ (b : Bool). cond b 0 1) h))
past_first m c (suc g) h = omega arith

-- a symbol past the header, whose data cells are dc
module _ (s : Source) (map : FitMap s.map) (carriers : (g : ℕ) → s.map.hdr_end ≤ g → carriers_at s.map g ≡ s.dc) (g : ℕ) (low : s.map.hdr_end ≤ g) (from : 1 ≤ g) where
  pub data_cells : Cells s.map g s.dc
  data_cells = rw (carriers g low) at (cells_fit s.map map g from)

  -- its data cell j is soft by its own expected value
  pub soft_there : (cells expected : List Float) (j : ℕ) → j < s.dc → soft_at s cells expected (data_carrier s.map g j) g ≡ soft_cell s cells expected (cell_of s g j) Blank
  unfolding soft_at soft_step
  soft_there cells expected j h =
      let r = data_cells in
      let c = data_carrier s.map g j in
      let apart : (i : ℕ) → i < s.dc → (i ≡ j → ⊥) → data_carrier s.map g i ≡ c → ⊥ =
      λ i b d q. d (sym (r.index i b) ∙ (ap (cell_index s.map g) q ∙ r.index j h)) in
      let e : j + 1 + (s.dc - (j + 1)) ≡ s.dc = omega arith in
      rw (le-ltb g s.map.hdr_end low)
      (rw e at (only (soft_step s cells expected g c) Blank j (s.dc - (j + 1))
      (λ i t b d. rw (ne_eqb (data_carrier s.map g i) c (apart i (omega arith) d))))
      ∙ rw (eq-eqb c c refl))

module _ (s : Source) (sigma cells expected : List Float) where
  pub known_wins : (c g : ℕ) → is_pilot s.map c g ≡ true → found_at s sigma cells expected c g ≡ Known (known_value s.map s.boost c g) (get_or sigma c nan)
  unfolding found_at
  known_wins c g h = rw h

  pub found_early : (c g : ℕ) → is_pilot s.map c g ≡ false → g < s.map.hdr_end → found_at s sigma cells expected c g ≡ Blank
  unfolding found_at soft_at
  found_early c g free h = rw (free, lt-ltb g s.map.hdr_end h)

  pub ncell_small : FitSource s sigma cells expected → ncell s ≤ 118156
  unfolding carriers_at
  ncell_small fit =
      let dc : s.dc ≤ 109 = omega (arith, fit.carriers s.map.hdr_end (omega arith), fit.map.few) in
      let ng : s.ng - s.map.hdr_end ≤ 1084 = omega (arith, fit.symbols) in
      mul-le-mul ng dc

  module _ (fit : FitSource s sigma cells expected) (g : ℕ) (low : s.map.hdr_end ≤ g) where
    abbrev cells_at : 1 ≤ g → Cells s.map g s.dc
    cells_at from = data_cells s fit.map fit.carriers g low from

    abbrev soft_at_lem : 1 ≤ g → (j : ℕ) → j < s.dc → soft_at s cells expected (data_carrier s.map g j) g ≡ soft_cell s cells expected (cell_of s g j) Blank
    soft_at_lem from = soft_there s fit.map fit.carriers g low from cells expected

    module _ (c : ℕ) (within : c < s.map.nc) (free : is_pilot s.map c g ≡ false) where
      soft_counted_lem : soft_at s cells expected c g ≡ soft_cell s cells expected (cell_of s g (cell_index s.map g c)) Blank
      soft_counted_lem =
          let r = cells_at (past_first s.map c g free) in
          rw (r.carrier c within free) at (soft_at_lem (past_first s.map c g free) (cell_index s.map g c) (r.below c within free))

      pub found_free : found_at s sigma cells expected c g ≡ soft_cell s cells expected (cell_of s g (cell_index s.map g c)) Blank
      unfolding found_at
      found_free = rw free soft_counted_lem

      pub cell_below : g < s.ng → cell_of s g (cell_index s.map g c) < ncell s
      cell_below h =
          omega (arith, (cells_at (past_first s.map c g free)).below c within free, stretch (g - s.map.hdr_end) (s.ng - s.map.hdr_end) s.dc (ncell s) (omega arith) (omega arith))

    -- data cell j of symbol g
    pub found_data : (j : ℕ) → 1 ≤ g → j < s.dc → found_at s sigma cells expected (data_carrier s.map g j) g ≡ soft_cell s cells expected (cell_of s g j) Blank
    unfolding found_at
    found_data j from h = rw ((cells_at from).free j h) (soft_at_lem from j h)

  pub counted : FitSource s sigma cells expected → (c g : ℕ) → c < s.map.nc → found_at s sigma cells expected c g ≡ found_counted s sigma cells expected c g
  unfolding found_at found_counted soft_at soft_counted
  counted fit c g h = go (is_pilot s.map c g) refl (dec_lt g s.map.hdr_end)
    where
      go : (t : Bool) → is_pilot s.map c g ≡ t → Dec (g < s.map.hdr_end) → found_at s sigma cells expected c g ≡ found_counted s sigma cells expected c g
      go true q d = rw q
      go false q (yes u) = rw (q, lt-ltb g s.map.hdr_end u)
      go false q (no u) = found_free fit g (omega arith) c h q ∙ rw (q, le-ltb g s.map.hdr_end (omega arith))
