-- `row_fill` meets its contract.
use Rattle.std.proofs.Common.{◌+◌, ◌<◌, length, arith}
use Rattle.seq.specs.Loop.Laws.{for_none, for_step, for_end}
use Rattle.est.specs.Covariance.{pair, entry, row}
use Rattle.est.proofs.Columns.{carrier_of, symbol_of, near_pilots}
use Rattle.est.proofs.neighbours.Neighbours.row_fill.Goals as goal

pub loop-j-init : goal.loop-j-init
loop-j-init c = for_none _ _ _

pub covary-v-requires : goal.covary-v-requires
covary-v-requires c = near_pilots _ _ _ _ _ c.args.self.now.usable c.args.i c.loop-j.j c.requires (omega arith)

pub loop-j-preserved : goal.loop-j-preserved
unfolding pair entry
loop-j-preserved c =
    let ps = c.args.self.now.ps.now in
    let i = c.args.i in
    let j = c.loop-j.j in
    let h' : j < length ps = omega arith in
    for_step _ _ _ _ _ _ (omega arith) c.loop-j.invariant
    (rw (c.put-in-loop-j.ensures, c.put.ensures, c.covary-v.ensures, carrier_of ps i c.requires, symbol_of ps i c.requires, carrier_of ps j h', symbol_of ps j h'))

pub returns-2 : goal.returns-2
unfolding row pair entry
returns-2 c =
    let ps = c.args.self.now.ps.now in
    let i = c.args.i in
    let j = c.loop-j.j in
    let h' : j < length ps = omega arith in
    for_end _ _ (j + 1) _ _ _ (omega arith) (omega arith)
    (for_step _ _ _ _ _ _ (omega arith) c.loop-j.invariant
    (rw (c.put-in-loop-j.ensures, c.put.ensures, c.covary-v.ensures, carrier_of ps i c.requires, symbol_of ps i c.requires, carrier_of ps j h', symbol_of ps j h')))
