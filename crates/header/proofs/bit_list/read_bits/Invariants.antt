use Rattle.std.proofs.Common.{◌≡◌, take}
use Rattle.header.specs.Bits.{value}
use Rattle.header.proofs.bit_list.read_bits.Given as goal

abbrev pub invariant-loop-b : goal.invariant-loop-b
invariant-loop-b l = l.v ≡ value (take l.b-index l.bits)
