use Rattle.std.proofs.Common.{◌≡◌}
use Rattle.seq.specs.Loop.{for}
use Rattle.est.specs.Weights.{over}
use Rattle.est.proofs.weights.divide_all.Given as goal

abbrev pub invariant-loop-x : goal.invariant-loop-x
invariant-loop-x l = l.x-items ≡ for 0 l.x-index (over l.s) l.fn.w
