use Rattle.std.proofs.Common.{◌≡◌, ◌++◌, ℕ, length, get_or, drop}
use Rattle.seq.specs.Tab.{tab}
use Rattle.listed.specs.Order.{below}
use Rattle.listed.proofs.order.starts.Given as goal

abbrev pub invariant-loop-g : goal.invariant-loop-g
invariant-loop-g l = l.start ≡ tab l.g (below (λ (i : ℕ). get_or l.pg i 0) (length l.pg)) ++ drop l.g l.initial.start
