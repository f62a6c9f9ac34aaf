-- What it hands over begins with what is to be equalised.
use Rattle.judge.specs.Cells.{estimate_in}
use Rattle.judge.proofs.Equalizing.{equalized_by, channels_are}
use Rattle.judge.proofs.symbol.Judge.equalize_row.Goals as goal

pub returns : goal.returns
returns c =
    let a = c.args in
    let j = a.self.now in
    let s = c.requires.spread in
    rw (equalized_by j.source j.shape.gain a.s.now.soft.now j.grid.now j.cells.now (estimate_in a.row.now) a.t a.s.now.spreader.tw _ _ _ _ _ _ _ _ _ s.twiddles
    c.samples.ensures (rw (channels_are j.source.dc a.row.now) at c.row_means.ensures) c.variances.ensures c.row_means-2.ensures c.row_variance-vx.ensures) at (rw s.count at c.sic.ensures)
