use Rattle.std.proofs.Common.{◌≡◌, ◌*◌, ◌++◌, drop}
use Rattle.wire.specs.Bytes.{number_bytes}
use Rattle.wire.proofs.answer.put_numbers.Given as goal

abbrev pub invariant-loop-i : goal.invariant-loop-i
invariant-loop-i l = record { written : l.out ≡ number_bytes l.i l.src ++ drop (l.i * 4) l.initial.out }
