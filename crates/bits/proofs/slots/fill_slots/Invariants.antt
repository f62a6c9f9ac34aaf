use Rattle.std.proofs.Common.{◌≡◌}
use Rattle.seq.specs.Fill.{fill}
use Rattle.bits.specs.Slots.{slot_of, prior_bit}
use Rattle.bits.proofs.slots.fill_slots.Given as goal

abbrev pub invariant-loop-i : goal.invariant-loop-i
invariant-loop-i l = l.out ≡ fill (slot_of l.n) (prior_bit l.prior) l.i l.initial.out
