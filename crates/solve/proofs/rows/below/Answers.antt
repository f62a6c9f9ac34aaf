-- `below`: the rows stored so far are not seen by the next one.
use Rattle.std.specs.Prelude.{◌≡◌, ◌+◌}
use Rattle.std.proofs.Common.{arith}
use Rattle.seq.specs.Loop.Laws.{for_step}
use Rattle.solve.specs.Solve.{below}
use Rattle.solve.proofs.Unseen.{unseen_rows}
use Rattle.solve.proofs.rows.below.Goals as goal

pub loop-r-preserved : goal.loop-r-preserved
loop-r-preserved g c =
    let s = c.args in
    let l = c.loop-r in
    let next : s.i + (l.r + 1) ≡ s.i + l.r + 1 = omega arith in
    rw next
    (for_step (below s.j s.d) s.i (s.i + l.r) s.a.now l.a _ (omega arith) l.invariant
    (rw (c.put.ensures, c.reduce-s.ensures l.r (omega arith), l.invariant, unseen_rows s.j (omega arith) s.a.now s.i l.r (s.i + l.r) s.d (omega arith))))
