use Rattle.soft.specs.Tree.{Level}
use Rattle.soft.proofs.labels.log_probabilities.Given as goal

abbrev pub invariant-loop-b : goal.invariant-loop-b
invariant-loop-b l = Level l.llr l.b l.lp
