use Rattle.std.proofs.Common.{◌≡◌, ◌++◌, drop}
use Rattle.seq.specs.Tab.{tab}
use Rattle.bits.specs.Slots.{bit_of}
use Rattle.bits.proofs.slots.fill_bits.Given as goal

abbrev pub invariant-loop-i : goal.invariant-loop-i
invariant-loop-i l = l.out ≡ tab l.i (bit_of l.n l.slots) ++ drop l.i l.initial.out
