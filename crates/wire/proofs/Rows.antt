-- The rows of a record's shape, as its fields give them. Assumes nothing.
use Rattle.std.proofs.Common.{◌≡◌, ℕ, ◌≤◌, false, List, length, sym, refl, ◌∙◌, arith}
use Rattle.std.specs.Prelude.{Result, Ok, Err, IfOk, Option, Some, None, Bool, true, cond, eqb}
use Rattle.std.specs.Option.{option_map, unwrap_or}
use Rattle.std.specs.Result.{result_ok}
use borrow.Author.Tests.{eq-eqb, ne_eqb}
use Rattle.cause.specs.declared.Cause.{Cause}
use Rattle.cause.specs.Causes.{cause_number, number_of}
use Rattle.refine.specs.Refine.{nbits}
use Rattle.table.specs.Rows.{bad_layout, bad_codes, bad_symbols}
use Rattle.table.specs.Refusals.{settings_refusal}
use Rattle.table.proofs.Passing.{counted_by, good_layout, good_codes, good_symbols, first_rows}
pub use Rattle.table.proofs.Passing.{some_number}
use Rattle.wire.specs.declared.shape.Sizes.{Sizes}
use Rattle.wire.specs.Record.{fields, settings, settings_of, burst_of}
use Rattle.wire.specs.Sizes.{plain, sizes_of}
use Rattle.wire.specs.Shape.{bad_record, shape_refusal, bits_of, bits_in}
use Rattle.wire.proofs.Shaped.{whole_record}

module _ (rec : List ℕ) where
  -- the rows of causes 1 to 3 read fields only
  pub layout_row : bad_layout (settings rec) ≡ bad_layout (plain (fields rec))
  unfolding bad_layout settings settings_of
  layout_row = refl

  pub codes_row : bad_codes (settings rec) ≡ bad_codes (plain (fields rec))
  unfolding bad_codes settings settings_of
  codes_row = refl

  pub symbols_row : bad_symbols (settings rec) ≡ bad_symbols (plain (fields rec))
  unfolding bad_symbols settings settings_of
  symbols_row = refl

  pub long_record : bad_record rec ≡ false → 6 ≤ length rec
  long_record e = (whole_record rec e).0

  -- what is found of a record says how many bits it has
  pub bits_found : (r : Result Sizes Cause) (o : Option Sizes) → number_of r ≡ shape_refusal rec → IfOk r (λ z. z ≡ sizes_of (fields rec)) → o ≡ result_ok r → option_map (λ z. z.nbits) o ≡ bits_in rec
  unfolding bits_in burst_of settings settings_of sizes_of
  bits_found (Ok z) o e h q = rw (eq-eqb _ 0 (sym e), q, h) refl
  bits_found (Err cause) o e h q = rw (ne_eqb _ 0 (λ z. some_number cause (e ∙ z)), q) refl

  -- where 0 stands for none
  pub bits_or_none : unwrap_or (bits_in rec) 0 ≡ bits_of rec
  unfolding bits_in bits_of
  bits_or_none = go (eqb (shape_refusal rec) 0) (nbits (burst_of rec))
    where
      go : (t : Bool) (n : ℕ) → unwrap_or (cond t (Some n) None) 0 ≡ cond t n 0
      go true n = refl
      go false n = refl

  -- a cause of the table's is the shape's
  pub turned_away : (c : Cause) → bad_record rec ≡ false → cause_number c ≡ settings_refusal (plain (fields rec)) → cause_number c ≡ shape_refusal rec
  unfolding settings_refusal shape_refusal
  turned_away c w e =
      let s = settings rec in
      rw w (first_rows (bad_layout s) (bad_codes s) (bad_symbols s) _ c (rw (layout_row, codes_row, symbols_row) e))

-- for `grind`, of the rows
pub ruleset rows = (layout_row, codes_row, symbols_row, long_record, counted_by, good_layout, good_codes, good_symbols, turned_away)
