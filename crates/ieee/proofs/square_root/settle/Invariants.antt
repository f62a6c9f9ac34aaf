use Prim.Native.Nat.{◌+◌, ◌-◌, ◌*◌, ◌^◌, ◌≤◌}
use Rattle.ieee.proofs.square_root.settle.Given as goal

abbrev pub invariant-loop-r : goal.invariant-loop-r
invariant-loop-r l = l.r ≤ 2 ^ 53

abbrev pub decreases-loop-r : goal.decreases-loop-r
decreases-loop-r l = 2 ^ 53 - l.r

abbrev pub invariant-loop-r-2 : goal.invariant-loop-r-2
invariant-loop-r-2 l = (l.r ≤ 2 ^ 53) × (l.s ≤ l.r * (l.r + 1))

abbrev pub decreases-loop-r-2 : goal.decreases-loop-r-2
decreases-loop-r-2 l = l.r
