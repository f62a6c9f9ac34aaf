-- The worked examples, computed.
use Rattle.std.proofs.Common.{refl}
use lib.Ieee.{of_bits, of_int, mul}
use Rattle.bits.specs.Step.{gcd_in, gcd, first_from, round_half, start_of, step_of}
use Rattle.bits.specs.Slots.{slot_of}
use Rattle.bits.specs.Examples.{WorkedExamples}

pub worked_examples : WorkedExamples
unfolding slot_of step_of first_from start_of round_half gcd gcd_in of_bits of_int mul
worked_examples = record { steps = refl; slots = refl }
