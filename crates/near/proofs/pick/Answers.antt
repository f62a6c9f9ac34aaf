-- `pick` meets its contract: it walks from where the window's first symbol starts to where its last one ends.
use Rattle.near.proofs.Walks.{picked}
use Rattle.near.proofs.pick.Goals as goal

pub returns : goal.returns
returns c =
    let s = c.args in
    let ps = s.ps.now in
    let p = c.requires in
    let r = c.pick.ensures in
    record { most = r.most; same = rw (← c.unwrap_or.ensures) (picked s.q s.w ps.c.now ps.g.now ps.f.now ps.start.now p.loaded p.asked _ _ _ _ _ c.low-g.ensures c.high.ensures c.start_of.ensures c.start_of-2.ensures c.start_of-3.ensures _ _ r.same) }
