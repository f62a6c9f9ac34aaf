-- `demap_row` meets its contract: before each turn the likelihoods of the cells below j are written. Assumes nothing.
use Prim.Native.Nat.{ℕ, ◌+◌, ◌*◌}
use native.Mathlib.Omega.{arith}
use Rattle.seq.specs.Cat.Laws.{cat-none}
use Rattle.judge.specs.Cells.{estimate_in}
use Rattle.judge.specs.Symbol.{demapped_by}
use Rattle.judge.proofs.Rows.{row_step, row_end}
use Rattle.judge.proofs.Laws.{length_demapped}
use Rattle.judge.proofs.symbol.Judge.demap_row.Goals as goal

pub loop-j-init : goal.loop-j-init
loop-j-init c = cat-none c.args.self.now.shape.bps _ _

pub loop-j-preserved : goal.loop-j-preserved
loop-j-preserved c =
    let j = c.args.self.now in
    row_step j.shape.bps (λ (k : ℕ). demapped_by j (c.args.t * j.source.dc + k) (estimate_in c.args.row.now k)) (λ (k : ℕ). length_demapped _ _ _ _ _ _ _) c.loop-j.j c.args.out.now c.loop-j.out _ c.loop-j.invariant (rw c.estimate_in.ensures at c.demap_cell.ensures)

pub returns : goal.returns
returns c =
    let j = c.args.self.now in
    row_end j.shape.bps (λ (k : ℕ). demapped_by j (c.args.t * j.source.dc + k) (estimate_in c.args.row.now k)) (λ (k : ℕ). length_demapped _ _ _ _ _ _ _) c.loop-j.j j.source.dc c.args.out.now c.loop-j.out (omega arith) c.loop-j-test.false c.requires.lengths.1 c.loop-j.invariant
