-- `sic` by its stages.
use Rattle.equalize.proofs.SicStages.{sic_answer}
use Rattle.equalize.proofs.canceller.sic.Goals as goal

pub returns : goal.returns
returns c =
    let sp = c.args.sp.now in
    let r = c.args.r.now in
    sic_answer sp.m sp.tw r.y.now r.h.now r.v.now r.gain c.args.xm.now c.args.vx _ _ _ c.args.z.now _ _ _
    c.spread_copy-xs.ensures
    c.cancel-s.ensures
    c.inverse.ensures
    c.result-e.ensures
    c.restore.ensures
