-- `starts` meets its contract.
use Rattle.std.proofs.Common.{arith}
use Rattle.seq.specs.Tab.Laws.{tab_none, tab_step, tab_whole}
use Rattle.listed.proofs.order.starts.Goals as goal

pub loop-g-init : goal.loop-g-init
loop-g-init c = tab_none _ _

pub loop-g-preserved : goal.loop-g-preserved
loop-g-preserved c = tab_step _ _ _ _ _ (omega arith) c.loop-g.invariant c.below.ensures

pub returns : goal.returns
returns c = tab_whole _ c.loop-g.g _ _ (omega arith) (omega arith) c.loop-g.invariant
