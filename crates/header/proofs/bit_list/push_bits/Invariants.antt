use Rattle.std.proofs.Common.{◌≡◌, ◌++◌, drop}
use Rattle.seq.specs.Tab.{tab}
use Rattle.header.proofs.Digits.{digit}
use Rattle.header.proofs.bit_list.push_bits.Given as goal

abbrev pub invariant-loop-i : goal.invariant-loop-i
invariant-loop-i l = record { written : l.out ≡ tab l.i (digit l.n l.v) ++ drop l.i l.initial.out }
