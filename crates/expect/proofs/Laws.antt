-- What callers may count on: a cell of an unspread burst is made from its own priors alone; and lengths.
-- Assumes nothing.
use Prim.Native.Nat.{ℕ, ◌+◌, ◌*◌, ◌<◌}
use mathlib.Core.Path.{◌≡◌, refl, sym, ap, ◌∙◌}
use mathlib.Core.Bool.{Bool, true, false, cond}
use mathlib.Core.List.{List}
use native.Mathlib.Nat.{mul_assoc}
use native.Mathlib.Omega.{arith}
use lib.ListN.{length, get_or, take, drop}
use lib.Seq.{get_or-take, get_or-drop}
use lib.Ieee.{Float, nan}
use Rattle.seq.specs.Cat.Laws.{length_cat, get_d_cat}
use Rattle.soft.specs.declared.moments.Soft.{Soft}
use Rattle.soft.proofs.Laws.{soft_laws}
use Rattle.expect.specs.declared.Shape.{Shape}
use Rattle.expect.specs.Expect.{cell_numbers, soft_at, soft_cells, scaled_cells, spread_row, respread, expected_of}

-- ---- the cells of an unspread burst

pub length_cell : (unit : List Float) (bps : ℕ) (sl : List Float) (cell : ℕ) → length (soft_at unit bps sl cell) ≡ 3
unfolding soft_at
length_cell unit bps sl cell = refl

pub soft_own : (unit : List Float) (bps : ℕ) (sl sl' : List Float) (cell : ℕ) → ((b : ℕ) → b < bps → get_or sl (cell * bps + b) nan ≡ get_or sl' (cell * bps + b) nan)
    → soft_at unit bps sl cell ≡ soft_at unit bps sl' cell
unfolding soft_at
soft_own unit bps sl sl' cell same =
    ap (λ (s : Soft). cell_numbers s.mean s.var)
    (soft_laws.own (take bps (drop (cell * bps) sl)) (take bps (drop (cell * bps) sl')) unit bps (λ b h. prior sl b h ∙ (same b h ∙ sym (prior sl' b h))))
  where
    prior : (l : List Float) (b : ℕ) → b < bps → get_or (take bps (drop (cell * bps) l)) b nan ≡ get_or l (cell * bps + b) nan
    prior l b h = rw (get_or-take, get_or-drop)

pub expected_at : (s : Shape) (unit sl : List Float) → s.spread ≡ false → (cell i : ℕ) → cell < s.nsym * s.dc → i < 3
    → get_or (expected_of s unit sl) (3 * cell + i) nan ≡ get_or (soft_at unit s.bps sl cell) i nan
unfolding expected_of soft_cells
expected_at s unit sl e cell i h u =
    let a : 3 * cell ≡ cell * 3 = omega arith in
    rw (e, a) (get_d_cat 3 (soft_at unit s.bps sl) nan (length_cell unit s.bps sl) (s.nsym * s.dc) cell i h u)

-- ---- lengths

pub length_soft : (unit : List Float) (bps : ℕ) (sl : List Float) (ncell : ℕ) → length (soft_cells unit bps ncell sl) ≡ ncell * 3
unfolding soft_cells
length_soft unit bps sl ncell = length_cat 3 (soft_at unit bps sl) (length_cell unit bps sl) ncell

pub length_row : (dc : ℕ) (soft : List Float) (gain : Float) (t : ℕ) → length (spread_row dc soft t gain) ≡ dc * 3
unfolding spread_row scaled_cells
length_row dc soft gain t = length_cat 3 _ (λ j. refl) dc
