-- `divide_all` meets its contract.
use Rattle.std.proofs.Common.{refl, arith}
use Rattle.seq.specs.Loop.Laws.{for_none, for_step, for_end}
use Rattle.est.specs.Weights.{over, divide_all}
use Rattle.est.proofs.weights.divide_all.Goals as goal

pub loop-x-init : goal.loop-x-init
loop-x-init c = for_none _ _ _

pub loop-x-preserved : goal.loop-x-preserved
unfolding over
loop-x-preserved c = for_step _ _ _ _ _ _ (omega arith) c.loop-x.invariant refl

pub returns : goal.returns
unfolding divide_all
returns c = for_end _ _ _ _ _ _ (omega arith) (omega arith) c.loop-x.invariant
