-- `gather` meets its contract: each turn counts and stores one index unless it is skipped.
use mathlib.Core.Path.{◌≡◌, refl, ◌∙◌}
use native.Mathlib.Omega.{arith}
use Rattle.near.specs.Searched.{skips_of}
use Rattle.near.proofs.Gathered.{stored_none, stored_next, gathered_all, gathered_many}
use Rattle.near.proofs.query.Search.gather.Goals as goal

pub loop-i-init : goal.loop-i-init
loop-i-init c =
    let s = c.args.self.now in
    (omega arith, omega (arith, s.span.below, s.span.above), omega arith, refl, stored_none _ _ _ _ c.requires)

pub loop-i-preserved : goal.loop-i-preserved
loop-i-preserved c =
    let l = c.loop-i in
    let s = c.args.self.now in
    let v = c.visit-n in
    (omega arith, omega arith, omega (arith, v.ensures.count.0, l.invariant.2), v.auto.idx ∙ l.invariant.3, stored_next (skips_of s) _ _ _ l.idx _ l.n _ l.invariant.0 l.invariant.4 v.ensures.count.1 v.ensures.stored)

pub returns-after-loop-i : goal.returns-after-loop-i
returns-after-loop-i c =
    let s = c.args.self.now in
    let e : c.loop-i.i ≡ s.hi = omega arith in
    gathered_all s.w.k (skips_of s) s.lo s.hi _ _ (rw e at c.loop-i.invariant.4)

pub returns-then-self-n : goal.returns-then-self-n
returns-then-self-n c =
    let s = c.args.self.now in
    gathered_many s.w.k (skips_of s) s.lo c.loop-i.i s.hi _ _ c.loop-i.invariant.0 c.loop-i.invariant.1 c.if-self-n.true c.loop-i.invariant.4
