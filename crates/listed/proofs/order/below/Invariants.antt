use Rattle.std.proofs.Common.{◌≡◌, ℕ, ◌≤◌, get_or}
use Rattle.listed.specs.Order.{below}
use Rattle.listed.proofs.order.below.Given as goal

abbrev pub invariant-loop-s : goal.invariant-loop-s
invariant-loop-s l =
    record {
      count : l.n ≡ below (λ (i : ℕ). get_or l.pg i 0) l.s-index l.g;
      few : l.n ≤ l.s-index;
    }
