-- The printed example by computation; and 8,190 is the last length of 6 + 4 n bytes up to 8,192. Assumes nothing.
use Prim.Native.Nat.{ℕ, ◌+◌, ◌*◌, ◌≤◌}
use mathlib.Core.Path.{◌≡◌, refl}
use mathlib.Core.Bool.{Bool, true, false}
use mathlib.Core.List.{List, [], ◌∷◌}
use native.Mathlib.Omega.{arith}
use lib.Dec.{ltb}
use lib.ListN.{length, take}
use borrow.Author.Tests.{ltb-false, eqb-true, not-false, eq-eqb}
use Rattle.layout.specs.Layouts.{layouts, layout_of, quarter}
use Rattle.layout.specs.Sizes.{pattern_of, data_carriers_of}
use Rattle.layout.specs.Patterns.{pilots_of}
use Rattle.refine.specs.Refine.{nbits}
use Rattle.table.specs.Table.{plain}
use Rattle.std.proofs.lemmas.Bool.{or_parts}
use Rattle.wire.specs.Record.{head, fields, fields_of, settings, settings_of, burst_of, count_of}
use Rattle.wire.specs.Layout.{head_of, head_bytes, laid_out}
use Rattle.wire.specs.Shape.{bad_record, bad_length, bits_of}
use Rattle.record.specs.Refusals.{refusal_in}
use Rattle.record.specs.Table.{rows, SomeAccepted}
use Rattle.record.specs.Examples.{example, printed, Printed, Longest}
use Rattle.record.proofs.Accepted.{no_shape}
use Rattle.record.proofs.Exact.{exact}
use Rattle.record.proofs.Accepting.{length_silent, some_accepted}

-- ---- the fields of the printed example

starts : take 6 printed ≡ 0x70 ∷ 0x01 ∷ 0x05 ∷ 0x00 ∷ 0x00 ∷ 0x00 ∷ []
unfolding laid_out head_bytes head_of
starts = refl

reads : fields printed ≡ record { layout = 7; constellation = 0; nsym = 1; sparse = false; spread = false; gain_code = 0; k = 20; priors = 0 }
unfolding fields_of head laid_out head_bytes head_of
reads = refl

fields_give : 6 + 4 * count_of printed ≡ 2530
unfolding count_of settings settings_of fields_of head laid_out head_bytes head_of layouts layout_of quarter pattern_of data_carriers_of pilots_of
fields_give = refl

bits : nbits (burst_of printed) ≡ 6
unfolding burst_of settings settings_of fields_of head laid_out head_bytes head_of layouts layout_of quarter pattern_of data_carriers_of pilots_of
bits = refl

-- ---- lengths

long : (priors : ℕ) → length (example priors) ≡ 6 + 4 * (631 + priors)
unfolding layouts layout_of quarter pattern_of data_carriers_of pilots_of
long priors = length_silent (plain 7 0 1 false false 0 20) priors

fitting : (rec : List ℕ) → bad_record rec ≡ false → bad_length rec ≡ false → (length rec ≤ 8192) × (length rec ≡ 6 + 4 * count_of rec)
unfolding bad_record bad_length
fitting rec r l =
    let t = (or_parts (ltb (length rec) 6) _ r).1 in
    (ltb-false 8192 (length rec) (or_parts (ltb 8192 (length rec)) _ t).0, eqb-true _ _ (not-false _ l))

fits : (rec : List ℕ) (room : Bool) → refusal_in rec room ≡ 0 → (length rec ≤ 8192) × (length rec ≡ 6 + 4 * count_of rec)
unfolding rows
fits rec room e = let no_row = (exact.none rec room).0 e in fitting rec (no_row 0) (no_row 4)

-- ---- both are accepted

accepted : (priors : ℕ) → priors ≤ 1415 → refusal_in (example priors) true ≡ 0
unfolding SomeAccepted
accepted priors h =
    some_accepted 7 0 1 false false 0 20 priors (omega arith) (omega arith) (omega arith) (omega arith) (omega arith) (omega arith) (omega (arith, long priors))

bits_of_lem : bits_of printed ≡ 6
unfolding bits_of
bits_of_lem = rw (eq-eqb _ _ (no_shape printed true (accepted 0 (omega arith)))) bits

pub printed_example : Printed
printed_example = record {
  starts = starts;
  reads = reads;
  fields_give = fields_give;
  long = long 0;
  accepted = accepted 0 (omega arith);
  bits = bits_of_lem;
}

pub longest : Longest
longest = record { most = λ rec room e. omega (arith, (fits rec room e).0, (fits rec room e).1); long = long 1415; accepted = accepted 1415 (omega arith) }
