-- `samples` meets its contract: before each turn the samples of the cells below j are written. Assumes nothing.
use native.Mathlib.Omega.{arith}
use Rattle.spread.proofs.Pairs.{pairs_none, pairs_step, pairs_end}
use Rattle.judge.specs.Judge.{ya}
use Rattle.judge.proofs.symbol.Judge.samples.Goals as goal

pub loop-j-init : goal.loop-j-init
loop-j-init c = pairs_none _ _

pub loop-j-preserved : goal.loop-j-preserved
loop-j-preserved c =
    rw c.put.ensures (pairs_step _ c.loop-j.j c.args.y.now c.loop-j.y _ (omega (arith, c.requires.y, c.loop-j.auto.y)) c.loop-j.invariant c.sample_of.ensures)

pub returns : goal.returns
unfolding ya
returns c = pairs_end _ c.loop-j.j c.args.self.now.source.dc c.args.y.now c.loop-j.y (omega arith) (omega arith) c.loop-j.invariant
