-- The two rows come back into their stretches, and one symbol more is judged.
use Rattle.load.specs.Pilots.{listed}
use Rattle.judge.specs.Symbol.{fitted_in, soft_points}
use Rattle.judge.proofs.Held.{equalized_with, unspread}
use Rattle.judge.proofs.Onward.{plain_next, spread_next}
use Rattle.judge.proofs.symbol.Judge.symbol.Goals as goal

pub returns-in-Some : goal.returns-in-Some
returns-in-Some c =
    let a = c.args in
    let j = a.self.now in
    let w = equalized_with j _ c.in-Some.is in
    λ e v u.
    spread_next j.source j.shape (fitted_in j.estimator) (listed j.estimator.pilots) j.estimator.pilots.start.now j.estimator.rf.now j.estimator.rt.now j.points.now.pts (soft_points j.spreading) j.grid.now j.cells.now
    j.fits.cells a.t c.requires.symbol e v a.channel.now a.answer.now u _ _ c.estimate_row.ensures w.0 (rw (← w.2) at c.despread_row.ensures)

pub returns-in-None : goal.returns-in-None
returns-in-None c =
    let a = c.args in
    let j = a.self.now in
    λ e v u.
    plain_next j.source j.shape (fitted_in j.estimator) (listed j.estimator.pilots) j.estimator.pilots.start.now j.estimator.rf.now j.estimator.rt.now j.points.now.pts (soft_points j.spreading) j.grid.now j.cells.now
    j.fits.cells a.t c.requires.symbol e v a.channel.now a.answer.now u _ _ c.estimate_row.ensures (unspread j c.in-None.is) c.demap_row.ensures
