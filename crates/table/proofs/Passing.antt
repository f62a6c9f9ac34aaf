-- What is known of a call that no row turns away. Assumes nothing.
use Prim.Native.Nat.{ℕ, ◌*◌, ◌≤◌}
use Rattle.std.specs.Prelude.{Some}
use mathlib.Core.Path.{◌≡◌, refl}
use mathlib.Core.Bool.{Bool, true, false, not, cond}
use native.Mathlib.Omega.{arith}
use lib.Dec.{ltb, leb, eqb}
use borrow.Author.Tests.{ltb-false, leb-true, eqb-true, eqb-false, not-false}
use mathlib.Core.List.{List}
use lib.ListN.{length}
use lib.Ieee.{Float}
use Rattle.refine.specs.Refine.{Burst, Fit}
use Rattle.refine.specs.declared.settings.Settings.{Settings}
use Rattle.table.specs.Sizes.{Counted, nc_of, grid_cells, ncell_of, nbits_of, work_length}
use Rattle.table.specs.Rows.{holds, bad_layout, bad_codes, bad_symbols, bad_grid, bad_variances, room_for}
use Rattle.table.specs.Table.{rows}
use Rattle.cause.specs.declared.Cause.{Cause}
use Rattle.cause.specs.Causes.{cause_number}
use Rattle.table.specs.Refusals.{settings_refusal, lent, refusal_of, refusal_in}
use Rattle.std.proofs.lemmas.Bool.{or_parts, and_parts}
use Rattle.table.proofs.Exact.{exact}

module _ (s : Settings) where
  pub counted : bad_symbols s ≡ false → Counted s
  unfolding bad_symbols
  counted e =
      let t = or_parts (eqb s.nsym 0) (ltb 1023 s.nsym) e in
      let n : s.nsym ≡ 0 → ⊥ = eqb-false s.nsym 0 t.0 in
      record { some = omega arith; most = ltb-false 1023 s.nsym t.1 }

  -- no row that the settings decide
  clear : (l c n : Bool) → ◌≡◌ {A = ℕ} (cond l 1 (cond c 2 (cond n 3 0))) 0 → (l ≡ false) × ((c ≡ false) × (n ≡ false))
  clear true c n e = absurd (omega (arith, e))
  clear false true n e = absurd (omega (arith, e))
  clear false false true e = absurd (omega (arith, e))
  clear false false false e = (refl, (refl, refl))

  pub good_layout : settings_refusal s ≡ 0 → bad_layout s ≡ false
  unfolding settings_refusal
  good_layout e = (clear (bad_layout s) (bad_codes s) (bad_symbols s) e).0

  pub good_codes : settings_refusal s ≡ 0 → bad_codes s ≡ false
  unfolding settings_refusal
  good_codes e = (clear (bad_layout s) (bad_codes s) (bad_symbols s) e).1.0

  pub good_symbols : settings_refusal s ≡ 0 → bad_symbols s ≡ false
  unfolding settings_refusal
  good_symbols e = (clear (bad_layout s) (bad_codes s) (bad_symbols s) e).1.1

  pub counted_by : settings_refusal s ≡ 0 → Counted s
  counted_by e = counted (good_symbols e)

  gain_code_lem : bad_codes s ≡ false → s.gain_code ≤ 3
  unfolding bad_codes
  gain_code_lem e = ltb-false 3 s.gain_code (or_parts (ltb 3 s.constellation) (ltb 3 s.gain_code) e).1

  long_grid : (grid : List Float) → bad_grid s grid ≡ false → length grid ≡ 2 * grid_cells s
  unfolding bad_grid
  long_grid grid e = eqb-true (length grid) (2 * grid_cells s) (not-false _ e)

  long_variances : (sigma cells : List Float) → bad_variances s sigma cells ≡ false → (length sigma ≡ nc_of s) × (length cells ≡ ncell_of s)
  unfolding bad_variances
  long_variances sigma cells e =
      let t = or_parts (not (eqb (length sigma) (nc_of s))) (not (eqb (length cells) (ncell_of s))) e in
      (eqb-true (length sigma) (nc_of s) (not-false _ t.0), eqb-true (length cells) (ncell_of s) (not-false _ t.1))

  record Roomy (answer channel wf wu : ℕ) : Type 0 where
    in_answer : nbits_of s ≤ answer
    in_channel : 3 * ncell_of s ≤ channel
    in_wf : work_length s ≤ wf
    in_wu : work_length s ≤ wu

  roomy : (answer channel wf wu : ℕ) → not (room_for s (record { answer = Some answer; channel = Some channel; wf = wf; wu = wu })) ≡ false → Roomy answer channel wf wu
  unfolding room_for holds
  roomy answer channel wf wu e =
      let a = and_parts (leb (nbits_of s) answer) _ (not-false _ e) in
      let c = and_parts (leb (3 * ncell_of s) channel) _ a.1 in
      let w = and_parts (leb (work_length s) wf) (leb (work_length s) wu) c.1 in
      record {
        in_answer = leb-true _ _ a.0;
        in_channel = leb-true _ _ c.0;
        in_wf = leb-true _ _ w.0;
        in_wu = leb-true _ _ w.1;
      }

-- no cause has the number of an answer
pub some_number : (c : Cause) → cause_number c ≡ 0 → ⊥
some_number c e = grind (arith, cause_number)

-- a cause of the settings' rows is the table's
pub first_rows : (layout codes symbols : Bool) (rest : ℕ) (c : Cause) → cause_number c ≡ cond layout 1 (cond codes 2 (cond symbols 3 0))
    → cause_number c ≡ cond layout 1 (cond codes 2 (cond symbols 3 rest))
first_rows true codes symbols rest c e = e
first_rows false true symbols rest c e = e
first_rows false false true rest c e = e
first_rows false false false rest c e = absurd (some_number c e)

pub turned_away : (b : Burst) (prior : List Float) (room : Bool) (c : Cause) → cause_number c ≡ settings_refusal b.settings → cause_number c ≡ refusal_of b prior room
unfolding settings_refusal refusal_of
turned_away b prior room c e = let s = b.settings in first_rows (bad_layout s) (bad_codes s) (bad_symbols s) _ c e

-- an accepted burst meets what refine asks
pub accepted_fits : (b : Burst) (prior answer channel wf : List Float) (wu : List ℕ) → refusal_in b prior answer channel wf wu ≡ 0 → Fit b answer channel wf wu
unfolding rows
accepted_fits b prior answer channel wf wu e =
    let s = b.settings in
    let none = (exact.none b prior (room_for s (lent answer channel wf wu))).0 e in
    let n = counted s (none 2) in
    let v = long_variances s b.sigma b.cells (none 4) in
    let r = roomy s (length answer) (length channel) (length wf) (length wu) (none 5) in
    record {
      gains = gain_code_lem s (none 1);
      some = n.some;
      most = n.most;
      long_grid = long_grid s b.grid (none 3);
      long_sigma = v.0;
      long_cells = v.1;
      in_answer = r.in_answer;
      in_channel = r.in_channel;
      in_wf = r.in_wf;
      in_wu = r.in_wu;
    }
