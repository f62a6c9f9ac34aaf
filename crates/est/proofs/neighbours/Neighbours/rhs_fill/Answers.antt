-- `rhs_fill` meets its contract.
use Rattle.std.proofs.Common.{arith}
use Rattle.seq.specs.Loop.Laws.{for_none, for_step, for_end}
use Rattle.est.specs.Covariance.{rhs_at, rhs_of}
use Rattle.est.proofs.Columns.{long, carrier_of, symbol_of, near_cell}
use Rattle.est.proofs.neighbours.Neighbours.rhs_fill.Goals as goal

pub loop-i-init : goal.loop-i-init
loop-i-init c = rw c.requires (for_none _ _ _)

pub covary-requires : goal.covary-requires
covary-requires c = near_cell _ _ _ _ _ c.args.self.now.usable c.loop-i.i c.loop-i-test.true

pub loop-i-preserved : goal.loop-i-preserved
unfolding rhs_at
loop-i-preserved c =
    let ps = c.args.self.now.ps.now in
    let i = c.loop-i.i in
    for_step _ _ _ _ _ _ (omega arith) c.loop-i.invariant (rw (c.covary.ensures, carrier_of ps i c.loop-i-test.true, symbol_of ps i c.loop-i-test.true))

pub returns : goal.returns
unfolding rhs_of
returns c = for_end _ _ _ _ _ _ (omega (arith, long c.args.self.now.ps.now)) (omega (arith, long c.args.self.now.ps.now)) c.loop-i.invariant
