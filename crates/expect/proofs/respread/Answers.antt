-- `respread` has lent each symbol below t its stretch, and nothing past them.
use Prim.Native.Nat.{◌*◌}
use mathlib.Core.Path.{◌∙◌}
use Rattle.seq.specs.Cat.Laws.{cat_more, returned}
use Rattle.expect.specs.Expect.{spread_row}
use Rattle.expect.proofs.Front.{lent_row}
use Rattle.expect.proofs.Laws.{length_row}
use Rattle.expect.proofs.respread.Goals as goal

pub loop-t-preserved : goal.loop-t-preserved
loop-t-preserved c =
    let l = c.loop-t in
    let s = c.args in
    let w = s.dc * 3 in
    returned (l.t * w) w l.out _ (spread_row s.dc s.out.now l.t s.gain) (lent_row s.dc s.gain l.t s.out.now l.out _ l.invariant (rw c.new-sp.ensures.0 at c.spread_row.ensures))
    ∙ cat_more w (λ i. spread_row s.dc s.out.now i s.gain) (length_row s.dc s.out.now s.gain) l.t s.out.now l.out l.invariant
