use Rattle.std.proofs.Common.{◌≡◌, ◌++◌, drop, get_or}
use Rattle.std.specs.Float.{nan}
use Rattle.seq.specs.Tab.{tab}
use Rattle.dsp.proofs.lists.copy.Given as goal

abbrev pub invariant-loop-i : goal.invariant-loop-i
invariant-loop-i l = l.dst ≡ tab l.i (λ x. get_or l.src x nan) ++ drop l.i l.initial.dst
