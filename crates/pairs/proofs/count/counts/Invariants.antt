use Rattle.std.proofs.Common.{◌≤◌, length}
use Rattle.pairs.proofs.count.counts.Given as goal

abbrev pub invariant-loop-i : goal.invariant-loop-i
invariant-loop-i g l = record { equal : l.n.equal ≤ length l.yielded; differ : l.n.differ ≤ length l.yielded; others : l.n.others ≤ length l.yielded }
