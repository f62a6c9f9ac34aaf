-- The stretch is filled.
use mathlib.Core.Path.{◌∙◌}
use Rattle.judge.proofs.Laws.{demapped_by}
use Rattle.judge.proofs.symbol.Judge.demap_cell.Goals as goal

pub returns : goal.returns
returns c =
    let a = c.args in
    let j = a.self.now in
    (rw j.bits at c.demap.ensures) ∙ demapped_by j.source j.points.now.pts j.shape.bps j.grid.now j.cells.now a.cell a.e _ a.out.now c.sample_of.ensures c.requires.out
