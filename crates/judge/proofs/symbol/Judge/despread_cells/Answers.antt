-- `despread_cells` meets its contract: before each turn the likelihoods of the symbols below j are written. Assumes
-- nothing.
use Prim.Native.Nat.{◌*◌}
use mathlib.Core.Path.{◌∙◌}
use native.Mathlib.Omega.{arith}
use Rattle.seq.specs.Cat.Laws.{cat-none, lent}
use Rattle.judge.specs.Judge.{answer_of, despread}
use Rattle.judge.proofs.Held.{parted}
use Rattle.judge.proofs.Rows.{row_step, row_end}
use Rattle.judge.proofs.Laws.{length_despread, despread_by}
use Rattle.judge.proofs.symbol.Judge.despread_cells.Goals as goal

pub loop-j-init : goal.loop-j-init
loop-j-init c = cat-none c.args.self.now.shape.bps _ _

pub loop-j-preserved : goal.loop-j-preserved
loop-j-preserved c =
    let j = c.args.self.now in
    let f = despread j.points.now.pts j.shape.bps (answer_of c.args.e c.args.z.now) in
    let h = length_despread j.points.now.pts j.shape.bps (answer_of c.args.e c.args.z.now) in
    let w = lent (c.loop-j.j * j.shape.bps) j.shape.bps c.loop-j.out (omega (arith, parted j c.loop-j.j c.loop-j-test.true, c.requires.1, c.loop-j.auto.out)) in
    let y = despread_by j.points.now.pts j.shape.bps c.args.e c.args.z.now c.loop-j.j c.at.result c.new.result _ c.at.ensures c.new.ensures w in
    row_step j.shape.bps f h c.loop-j.j c.args.out.now c.loop-j.out _ c.loop-j.invariant ((rw j.bits at c.demap.ensures) ∙ y)

pub returns : goal.returns
returns c =
    let j = c.args.self.now in
    row_end j.shape.bps (despread j.points.now.pts j.shape.bps (answer_of c.args.e c.args.z.now)) (length_despread j.points.now.pts j.shape.bps (answer_of c.args.e c.args.z.now)) c.loop-j.j j.source.dc c.args.out.now c.loop-j.out (omega arith) c.loop-j-test.false c.requires.1 c.loop-j.invariant
