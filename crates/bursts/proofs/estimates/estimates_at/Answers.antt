-- `estimates_at` meets its contract: each turn writes the three numbers of one cell.
use Rattle.std.proofs.Common.{◌≡◌, ◌*◌, ◌++◌, length, take, drop, refl, ap, ◌∙◌, arith}
use Rattle.seq.specs.Cat.Laws.{cat-none, cat_more}
use Rattle.est.specs.declared.combine.Estimate.{Estimate}
use Rattle.bursts.specs.Estimating.{flat_estimate, estimates_at}
use Rattle.bursts.proofs.Rests.{rest_put}
use Rattle.bursts.proofs.estimates.estimates_at.Goals as goal

pub loop-i-init : goal.loop-i-init
loop-i-init c = cat-none 3 _ _

pub loop-i-preserved : goal.loop-i-preserved
loop-i-preserved c =
    let l = c.loop-i in
    let e = c.estimate_at-x in
    rest_put (l.i * 3) l.out 3 (flat_estimate e.result) _ c.put.ensures
    ∙ (ap (λ (r : Estimate). take (l.i * 3) l.out ++ (flat_estimate r ++ drop 3 (drop (l.i * 3) l.out))) e.ensures
    ∙ cat_more 3 _ (λ k. refl) l.i _ l.out l.invariant)

pub returns : goal.returns
unfolding estimates_at
returns c = let e : c.loop-i.i ≡ length c.args.at.now = omega (arith, c.loop-i.auto.i-end, c.loop-i-test.false) in rw e at c.loop-i.invariant
