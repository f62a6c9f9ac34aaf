-- A cell's expected value reaches only what the loader finds at the cell. Assumes nothing.
use Prim.{tt}
use Prim.Native.Nat.{ℕ, ◌+◌, ◌-◌, ◌*◌, ◌%◌, ◌≤◌, ◌<◌}
use mathlib.Core.Path.{◌≡◌, refl, sym, ap, ap₂, ◌∙◌}
use mathlib.Core.Bool.{Bool, true, false, cond}
use mathlib.Core.List.{List}
use native.Mathlib.Nat.{mul-add-div_right, div-eq_of_lt, add-mul-mod_self_right, mod-eq_of_lt, add_comm}
use native.Mathlib.Omega.{arith}
use lib.Dec.{eqb, ltb}
use lib.ListN.{get_or}
use lib.Ieee.{Float, nan}
use borrow.Author.Tests.{eqb-true, ltb-false}
use Rattle.seq.specs.Loop.{for}
use Rattle.seq.specs.Loop.Laws.{for_all, for_same}
use Rattle.seq.specs.Cat.Laws.{stretch}
use Rattle.dsp.specs.declared.Complex.{Complex}
use Rattle.layout.specs.Carriers.{data_carrier}
use Rattle.soft.specs.Soft.{loud_of}
use Rattle.load.specs.declared.found.Found.{Found}
use Rattle.load.specs.declared.found.Found.TheVariants.{Soft, Blank}
use Rattle.load.specs.declared.found.Source.{Source}
use Rattle.load.specs.Find.{mean_at, cell_of, soft_cell, soft_step, soft_at, found_at, known_or}
use Rattle.load.specs.Fit.{ncell}
use Rattle.judge.specs.Cells.{symbol_of, carrier_of}
use Rattle.refine.proofs.Blanked.{Unknown}

-- data cell i of symbol g, by its number
module _ (s : Source) (g i : ℕ) (low : s.map.hdr_end ≤ g) (h : i < s.dc) where
  symbol_back : symbol_of s (cell_of s g i) ≡ g
  symbol_back = omega (arith, mul-add-div_right {m = s.dc} (omega arith) (g - s.map.hdr_end) i, div-eq_of_lt h)

  carrier_back : carrier_of s (cell_of s g i) ≡ data_carrier s.map g i
  carrier_back =
      let e : cell_of s g i % s.dc ≡ i =
      ap (λ (n : ℕ). n % s.dc) (add_comm ((g - s.map.hdr_end) * s.dc) i) ∙ (add-mul-mod_self_right i (g - s.map.hdr_end) s.dc ∙ mod-eq_of_lt h) in
      ap₂ (data_carrier s.map) symbol_back e

  cell_below : g < s.ng → cell_of s g i < ncell s
  cell_below h' = omega (arith, stretch (g - s.map.hdr_end) (s.ng - s.map.hdr_end) s.dc (ncell s) (omega arith) (omega arith))

module _ (s : Source) (cells e : List Float) where
  -- a data cell is soft or blank
  pub soft_unknown : (c g : ℕ) → Unknown (soft_at s cells e c g)
  unfolding soft_at soft_step soft_cell
  soft_unknown c g =
      early (ltb g s.map.hdr_end) (for 0 s.dc (soft_step s cells e g c) Blank)
      (for_all Unknown (soft_step s cells e g c) 0 s.dc Blank (λ i f u v k. turn (eqb (data_carrier s.map g i) c) (loud_of (mean_at e (cell_of s g i)) s.es) _ _ f k) tt)
    where
      early : (t : Bool) (f : Found) → Unknown f → Unknown (cond t Blank f)
      early true f k = tt
      early false f k = k

      turn : (t l : Bool) (x : Complex) (v : Float) (f : Found) → Unknown f → Unknown (cond t (cond l (Soft x v) f) f)
      turn true true x v f k = tt
      turn true false x v f k = k
      turn false l x v f k = k

-- the three numbers of cell k
abbrev pub Same : List Float → List Float → ℕ → Type 0
Same e e' k = (t : ℕ) → t < 3 → get_or e (3 * k + t) nan ≡ get_or e' (3 * k + t) nan

-- two lists of expected values that agree but at cell j
module _ (s : Source) (sigma cells e e' : List Float) (j : ℕ) (same : (k : ℕ) → k < ncell s → (k ≡ j → ⊥) → Same e e' k) where
  cell_else : (k : ℕ) → k < ncell s → (k ≡ j → ⊥) → (f : Found) → soft_cell s cells e k f ≡ soft_cell s cells e' k f
  unfolding soft_cell
  cell_else k h d f =
      let z : 3 * k + 0 ≡ 3 * k = omega arith in
      rw (rw z at (same k h d 0 (omega arith)), same k h d 1 (omega arith), same k h d 2 (omega arith))

  -- at any place but that of cell j
  module _ (c g : ℕ) (h : g < s.ng) (other : g ≡ symbol_of s j → c ≡ carrier_of s j → ⊥) where
    step_else : s.map.hdr_end ≤ g → (i : ℕ) → i < s.dc → (f : Found) → soft_step s cells e g c i f ≡ soft_step s cells e' g c i f
    unfolding soft_step
    step_else low i hi f = go (eqb (data_carrier s.map g i) c) refl
      where
        go : (t : Bool) → eqb (data_carrier s.map g i) c ≡ t → cond t (soft_cell s cells e (cell_of s g i) f) f ≡ cond t (soft_cell s cells e' (cell_of s g i) f) f
        go false q = refl
        go true q =
            cell_else (cell_of s g i) (cell_below s g i low hi h)
            (λ z. other (sym (symbol_back s g i low hi) ∙ ap (symbol_of s) z) (sym (eqb-true (data_carrier s.map g i) c q) ∙ (sym (carrier_back s g i low hi) ∙ ap (carrier_of s) z))) f

    soft_else : soft_at s cells e c g ≡ soft_at s cells e' c g
    unfolding soft_at
    soft_else = go (ltb g s.map.hdr_end) refl
      where
        go : (t : Bool) → ltb g s.map.hdr_end ≡ t → cond t Blank (for 0 s.dc (soft_step s cells e g c) Blank) ≡ cond t Blank (for 0 s.dc (soft_step s cells e' g c) Blank)
        go true q = refl
        go false q = for_same (soft_step s cells e g c) (soft_step s cells e' g c) 0 s.dc Blank (λ i f u v. step_else (ltb-false g s.map.hdr_end q) i (omega arith) f)

    pub found_else : found_at s sigma cells e c g ≡ found_at s sigma cells e' c g
    unfolding found_at
    found_else = ap (known_or s sigma c g) soft_else
