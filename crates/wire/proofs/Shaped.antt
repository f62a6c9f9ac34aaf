-- What is known of a record of an accepted shape, and how large its lists can then be. Assumes nothing.
use Prim.Native.Nat.{ℕ, zero, suc, ◌+◌, ◌*◌, ◌≤◌}
use mathlib.Core.Path.{◌≡◌, refl}
use mathlib.Core.Bool.{Bool, true, false, cond}
use mathlib.Core.List.{List}
use native.Mathlib.Nat.{mul-le-mul}
use native.Mathlib.Omega.{arith}
use lib.ListN.{length}
use lib.Dec.{ltb}
use borrow.Author.Tests.{ltb-false, eqb-true, not-false}
use Rattle.layout.specs.Layouts.{layout_of}
use Rattle.layout.specs.Sizes.{data_carriers_of}
use Rattle.points.specs.Constellation.{bps_of}
use Rattle.refine.specs.declared.settings.Settings.{Settings}
use Rattle.table.specs.Sizes.{Counted, nc_of, ncell_of, grid_cells, nbits_of, work_length}
use Rattle.table.specs.Rows.{bad_layout, bad_codes, bad_symbols}
use Rattle.std.proofs.lemmas.Bool.{or_parts}
use Rattle.table.proofs.Passing.{counted}
use Rattle.wire.specs.Record.{head, padding, settings, settings_of, fields, count_of}
use Rattle.wire.specs.Sizes.{plain}
use Rattle.wire.specs.Shape.{bad_record, bad_length, shape_refusal}

pub record Shaped (rec : List ℕ) : Type 0 where
  pub whole : bad_record rec ≡ false
  pub long : 6 ≤ length rec
  pub most : length rec ≤ 8192
  pub unpadded : padding (head rec) ≡ 0
  pub layout : (settings rec).layout ≤ 8
  pub constellation : (settings rec).constellation ≤ 3
  pub gain_code_lem : (settings rec).gain_code ≤ 3
  pub symbols : Counted (settings rec)
  pub length_is : length rec ≡ 6 + 4 * count_of rec
  pub numbers : count_of rec ≤ 2046
  pub lists : nc_of (settings rec) + ncell_of (settings rec) + 2 * grid_cells (settings rec) + (fields rec).priors ≤ 2043
  pub channel : 3 * ncell_of (settings rec) ≤ 2043
  pub bits : nbits_of (settings rec) ≤ 4086
  pub work : work_length (settings rec) ≤ 12258

-- a burst's data symbols are counted by its fields
pub counting : (rec : List ℕ) → Counted (settings rec) → Counted (plain (fields rec))
unfolding settings settings_of
counting rec n = record { some = n.some; most = n.most }

-- ---- what each test says

pub passed : (a b c d e : Bool) → ◌≡◌ {A = ℕ} (cond a 12 (cond b 1 (cond c 2 (cond d 3 (cond e 12 0))))) 0 → (a ≡ false) × (b ≡ false) × (c ≡ false) × (d ≡ false) × (e ≡ false)
passed true b c d e h = absurd (omega arith)
passed false true c d e h = absurd (omega arith)
passed false false true d e h = absurd (omega arith)
passed false false false true e h = absurd (omega arith)
passed false false false false true h = absurd (omega arith)
passed false false false false false h = (refl, refl, refl, refl, refl)

module _ (rec : List ℕ) where
  pub whole_record : bad_record rec ≡ false → (6 ≤ length rec) × (length rec ≤ 8192) × (padding (head rec) ≡ 0)
  unfolding bad_record
  whole_record e =
      let a = or_parts (ltb (length rec) 6) _ e in
      let b = or_parts (ltb 8192 (length rec)) _ a.1 in
      (ltb-false _ _ a.0, ltb-false _ _ b.0, eqb-true _ _ (not-false _ b.1))

  length_fits : bad_length rec ≡ false → length rec ≡ 6 + 4 * count_of rec
  unfolding bad_length
  length_fits e = eqb-true _ _ (not-false _ e)

module _ (s : Settings) where
  low_layout : bad_layout s ≡ false → s.layout ≤ 8
  unfolding bad_layout
  low_layout e = ltb-false _ _ e

  low_codes : bad_codes s ≡ false → (s.constellation ≤ 3) × (s.gain_code ≤ 3)
  unfolding bad_codes
  low_codes e = let t = or_parts (ltb 3 s.constellation) (ltb 3 s.gain_code) e in (ltb-false _ _ t.0, ltb-false _ _ t.1)

  -- ---- sizes

  few_carriers : data_carriers_of (layout_of s.layout) s.sparse ≤ nc_of s
  unfolding data_carriers_of
  few_carriers = omega arith

  -- data cells are cells of the grid
  cells_in_grid : ncell_of s ≤ grid_cells s
  cells_in_grid = mul-le-mul (omega arith) few_carriers

  most_bits : nbits_of s ≤ 6 * ncell_of s
  most_bits = let b : nbits_of s ≤ ncell_of s * 6 = mul-le-mul (omega arith) (few s.constellation) in omega (arith, b)
    where
      few : (code : ℕ) → bps_of code ≤ 6
      few zero = omega arith
      few (suc zero) = omega arith
      few (suc (suc zero)) = omega arith
      few (suc (suc (suc code))) = omega arith

numbers_in : (rec : List ℕ) → count_of rec ≡ 3 + (nc_of (settings rec) + ncell_of (settings rec) + 2 * grid_cells (settings rec) + (fields rec).priors)
unfolding count_of
numbers_in rec = omega arith

pub shaped : (rec : List ℕ) → shape_refusal rec ≡ 0 → Shaped rec
unfolding shape_refusal
shaped rec h =
    let s = settings rec in
    let t = passed (bad_record rec) (bad_layout s) (bad_codes s) (bad_symbols s) (bad_length rec) h in
    let w = whole_record rec t.0 in
    let k = low_codes s t.2 in
    let l = length_fits rec t.4 in
    let n = numbers_in rec in
    let g = cells_in_grid s in
    let b = most_bits s in
    record {
      whole = t.0;
      long = w.0;
      most = w.1;
      unpadded = w.2;
      layout = low_layout s t.1;
      constellation = k.0;
      gain_code_lem = k.1;
      symbols = counted s t.3;
      length_is = l;
      numbers = omega (arith, l, w.1);
      lists = omega (arith, l, w.1, n);
      channel = omega (arith, l, w.1, n, g);
      bits = omega (arith, l, w.1, n, g, b);
      work = omega (arith, l, w.1, n, g, b);
    }
