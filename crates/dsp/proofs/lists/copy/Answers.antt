-- `copy` has copied each number.
use Rattle.std.proofs.Common.{length, sym, ◌∙◌, arith}
use Rattle.std.specs.Float.{nan}
use Rattle.seq.specs.Tab.Laws.{tab_whole, tab-itself}
use Rattle.dsp.proofs.lists.copy.Goals as goal

pub returns : goal.returns
returns c =
    let s = c.args.src.now in
    tab_whole _ c.loop-i.i _ _ (omega arith) (omega arith) c.loop-i.invariant ∙ rw c.requires (tab-itself (length s) nan s (omega arith))
