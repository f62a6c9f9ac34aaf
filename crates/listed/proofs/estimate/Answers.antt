-- `estimate` meets its contract: the lists hold the records, and `single` goes by the lists.
use Rattle.std.proofs.Common.{◌≡◌, length, ap, ◌∙◌, arith}
use Rattle.listed.specs.Listed.{by_all}
use Rattle.listed.proofs.Filled.{begun, one_more, all_in, asked_in}
use Rattle.listed.proofs.estimate.Goals as goal

pub loop-i-init : goal.loop-i-init
loop-i-init c = begun c.args.ps.now c.args.w.now c.args.pf.now

pub loop-i-preserved : goal.loop-i-preserved
loop-i-preserved c =
    let l = c.loop-i in
    one_more c.args.ps.now _ _ c.requires.in_w c.requires.in_pf l.i l.w l.pf _ _ (omega arith) l.invariant c.put.ensures c.put.auto.w c.put.auto.pf

pub single-requires : goal.single-requires
single-requires c =
    let l = c.loop-i in
    let all : l.i ≡ length c.args.ps.now = omega (arith, l.auto.i-end, c.loop-i-test.false) in
    asked_in c.args.a c.args.ps.now _ _ c.requires l.w l.pf (rw all at l.invariant)

pub returns : goal.returns
returns c =
    let l = c.loop-i in
    let all : l.i ≡ length c.args.ps.now = omega (arith, l.auto.i-end, c.loop-i-test.false) in
    c.single.ensures ∙ ap (by_all c.args.a) (all_in c.args.ps.now l.w l.pf _ _ (rw all at l.invariant))
