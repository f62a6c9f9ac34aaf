-- `estimate_row` meets its contract: before each turn the cells below j hold estimates, and the others what was
-- expected of them. Assumes nothing.
use mathlib.Core.Path.{refl}
use native.Mathlib.Omega.{arith}
use Rattle.seq.specs.Cat.Laws.{cat-none}
use Rattle.judge.proofs.Rows.{row_step, row_end, mean_lent}
use Rattle.judge.proofs.symbol.Judge.estimate_row.Goals as goal

pub loop-j-init : goal.loop-j-init
loop-j-init c = cat-none 3 _ _

pub loop-j-preserved : goal.loop-j-preserved
loop-j-preserved c =
    let x = mean_lent _ (λ k. refl) c.loop-j.j c.args.row.now c.loop-j.row c.loop-j.invariant in
    row_step 3 _ (λ k. refl) c.loop-j.j c.args.row.now c.loop-j.row _ c.loop-j.invariant (rw x at c.estimate_cell.ensures)

pub returns : goal.returns
returns c = row_end 3 _ (λ k. refl) c.loop-j.j c.args.self.now.source.dc c.args.row.now c.loop-j.row (omega arith) c.loop-j-test.false c.requires.row c.loop-j.invariant
