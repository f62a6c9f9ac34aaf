-- The symbols stand at the front of z.
use mathlib.Core.Path.{◌∙◌}
use Rattle.judge.specs.Cells.{estimate_in}
use Rattle.judge.proofs.Equalizing.{length_equalized, despread_front}
use Rattle.judge.proofs.symbol.Judge.despread_row.Goals as goal

pub returns : goal.returns
returns c =
    let a = c.args in
    let j = a.self.now in
    c.despread_cells.ensures
    ∙ despread_front j.source.dc j.points.now.pts j.shape.bps _ _ _ _ c.equalize_row-e.ensures (length_equalized j.source j.shape.gain a.s.now.soft.now j.grid.now j.cells.now (estimate_in a.row.now) a.t)
