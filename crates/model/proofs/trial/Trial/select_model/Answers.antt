-- `select_model` meets its contract: each turn tries one model.
use Rattle.std.proofs.Common.{ap, arith}
use lib.Ieee.{div, of_bits}
use Rattle.seq.specs.Loop.Laws.{for_none, for_step, for_end}
use Rattle.model.specs.Select.{select_model}
use Rattle.model.proofs.trial.Trial.select_model.Goals as goal

pub loop-t-init : goal.loop-t-init
unfolding div of_bits
loop-t-init c = (omega arith, for_none _ _ _)

pub loop-t-preserved : goal.loop-t-preserved
loop-t-preserved c = (omega arith, for_step _ _ _ _ _ _ (omega arith) c.loop-t.invariant.1 c.next-best.ensures)

pub returns : goal.returns
unfolding select_model
returns c = ap (λ b. b.model) (for_end _ _ _ _ _ _ (omega arith) (omega arith) c.loop-t.invariant.1)
