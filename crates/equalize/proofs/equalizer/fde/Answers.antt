-- `fde` by its stages.
use Rattle.equalize.proofs.FdeStages.{fde_answer}
use Rattle.equalize.proofs.equalizer.fde.Goals as goal

pub returns : goal.returns
returns c =
    let sp = c.args.sp.now in
    let r = c.args.r.now in
    fde_answer sp.m sp.tw r.y.now r.h.now r.v.now r.gain _ _ c.args.z.now _ _ c.equalize-s.ensures c.inverse.ensures c.result.ensures
