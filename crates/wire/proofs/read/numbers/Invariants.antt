use Rattle.std.proofs.Common.{◌≡◌, ◌++◌, drop}
use Rattle.seq.specs.Tab.{tab}
use Rattle.wire.specs.Record.{number_at}
use Rattle.wire.proofs.read.numbers.Given as goal

abbrev pub invariant-loop-i : goal.invariant-loop-i
invariant-loop-i l = record { written : l.out ≡ tab l.i (number_at l.«record») ++ drop l.i l.initial.out }
