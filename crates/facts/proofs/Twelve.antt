-- Document 01's twelve cases: computed, or laws of their crates.
use mathlib.Core.Path.{◌≡◌, refl, ap, ◌∙◌}
use mathlib.Core.Bool.{true, false}
use lib.IntN.{pos}
use lib.Ieee.{fin, of_bits, of_int, mul}
use Rattle.ieee.specs.Num.{zero32}
use Rattle.bits.specs.Step.{gcd_in, gcd, first_from, round_half, start_of, step_of}
use Rattle.bits.specs.Slots.{slot_of}
use Rattle.layout.proofs.Examples.{examples}
use Rattle.elementary.specs.Exp.{exp_at}
use Rattle.elementary.proofs.Laws.{exp_laws, ln_laws}
use Rattle.header.proofs.Register.{v41}
use Rattle.facts.specs.Facts.{minus88, Twelve}

zero_is : zero32 ≡ fin false 0 (pos 0)
unfolding of_bits
zero_is = refl

minus_88_is : minus88 ≡ fin true 11 (pos 3)
unfolding of_bits
minus_88_is = refl

pub twelve : Twelve
unfolding slot_of step_of first_from start_of round_half gcd gcd_in of_bits of_int mul
twelve =
    record {
      step_2 = refl;
      step_3 = refl;
      step_6 = refl;
      step_10 = refl;
      step_12 = refl;
      slots_6 = refl;
      cells_61 = examples.at_61;
      cells_62 = examples.at_62;
      exp_0 = ap exp_at zero_is ∙ exp_laws.at_zero false;
      exp_minus_88 = ap exp_at minus_88_is ∙ exp_laws.at_88;
      ln_1 = ln_laws.at_one;
      crc_of_0 = v41.zero_bit;
    }
