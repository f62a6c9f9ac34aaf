-- `estimate_cell` meets its contract. Assumes nothing.
use mathlib.Core.Path.{◌∙◌}
use Rattle.load.specs.Find.{mean_at}
use Rattle.judge.proofs.Estimated.{estimate_written}
use Rattle.judge.proofs.Placed.{placed}
use Rattle.judge.proofs.symbol.Judge.estimate_cell.Goals as goal

pub returns : goal.returns
returns c =
    let a = c.args in
    let j = a.self.now in
    c.put.ensures
    ∙ estimate_written j.source j.estimator j.fits a.cell (placed j.source j.fits.cells a.cell c.requires.cell) _ _ c.carrier_of-c.ensures c.symbol_of-g.ensures
    (mean_at a.out.now 0) _ _ a.out.now c.requires.three (rw c.at.ensures at c.own_index-own.ensures) c.estimate_without-e.ensures
