-- `fill` meets its contract: each turn writes one element of the table.
use Rattle.std.proofs.Common.{arith}
use Rattle.seq.specs.Tab.Laws.{tab_whole}
use Rattle.est.proofs.model.fill.Goals as goal

pub sinc-requires : goal.sinc-requires
sinc-requires c = c.requires.0 c.loop-i.i (omega arith)

pub returns : goal.returns
returns c = tab_whole _ c.loop-i.i c.args.out.now _ (omega arith) (omega arith) c.loop-i.invariant
