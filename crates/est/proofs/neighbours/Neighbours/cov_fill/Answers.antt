-- `cov_fill` meets its contract.
use Rattle.std.proofs.Common.{arith}
use Rattle.seq.specs.Loop.Laws.{for_none, for_step, for_end}
use Rattle.est.specs.Covariance.{cov_of}
use Rattle.est.proofs.Columns.{long}
use Rattle.est.proofs.neighbours.Neighbours.cov_fill.Goals as goal

pub loop-i-init : goal.loop-i-init
loop-i-init c = (omega arith, rw c.requires (for_none _ _ _))

pub loop-i-preserved : goal.loop-i-preserved
loop-i-preserved c = (omega arith, for_step _ _ _ _ _ _ (omega arith) c.loop-i.invariant.1 c.row_var.ensures)

pub returns : goal.returns
unfolding cov_of
returns c = for_end _ _ _ _ _ _ (omega (arith, long c.args.self.now.ps.now)) (omega (arith, long c.args.self.now.ps.now)) c.loop-i.invariant.1
