-- `variances` meets its contract: before each turn the variances of the cells below j are written. Assumes nothing.
use mathlib.Core.Path.{refl}
use native.Mathlib.Omega.{arith}
use Rattle.seq.specs.Tab.Laws.{tab_none, tab_step, tab_end}
use Rattle.judge.specs.Judge.{va}
use Rattle.judge.proofs.symbol.Judge.variances.Goals as goal

pub loop-j-init : goal.loop-j-init
loop-j-init c = tab_none _ _

pub loop-j-preserved : goal.loop-j-preserved
loop-j-preserved c = tab_step _ c.loop-j.j c.args.v.now c.loop-j.v _ (omega (arith, c.requires.lengths.1)) c.loop-j.invariant (rw c.estimate_in.ensures refl)

pub returns : goal.returns
unfolding va
returns c = tab_end _ c.loop-j.j c.args.self.now.source.dc c.args.v.now c.loop-j.v (omega arith) (omega arith) c.loop-j.invariant
