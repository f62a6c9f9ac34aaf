-- `walk` meets its contract: each turn inserts one index unless it is skipped, and at most k stay.
use native.Mathlib.Omega.{arith}
use Rattle.seq.specs.Loop.Laws.{for_none, for_step}
use Rattle.near.specs.Searched.{skips_of, keys_of}
use Rattle.near.proofs.Selected.{keep_few}
use Rattle.near.proofs.query.Search.walk.Goals as goal

pub loop-i-init : goal.loop-i-init
loop-i-init c = (omega arith, omega arith, c.requires.4, for_none _ _ _)

pub loop-i-preserved : goal.loop-i-preserved
loop-i-preserved c =
    let l = c.loop-i in
    let s = c.args.self.now in
    let v = c.consider in
    (omega arith, omega arith, rw v.ensures (keep_few s.w.k (skips_of s) (keys_of s) l.i _ l.invariant.2), for_step _ _ _ _ _ _ (omega arith) l.invariant.3 v.ensures)
