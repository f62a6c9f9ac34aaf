use Rattle.std.proofs.Common.{◌≡◌, ◌++◌, drop}
use Rattle.seq.specs.Tab.{tab}
use Rattle.est.specs.Model.{sinc_at}
use Rattle.est.proofs.model.fill.Given as goal

abbrev pub invariant-loop-i : goal.invariant-loop-i
invariant-loop-i l = l.out ≡ tab l.i (sinc_at l.step l.centre) ++ drop l.i l.initial.out
