-- `log_probabilities` goes from level to level.
use native.Mathlib.Omega.{arith}
use Rattle.soft.specs.Soft.{prior_at}
use Rattle.soft.proofs.Prefix.{at_most_32, level_more}
use Rattle.soft.proofs.labels.log_probabilities.Goals as goal

pub loop-b-preserved : goal.loop-b-preserved
unfolding prior_at
loop-b-preserved c =
    let costs = c.costs_of-c.ensures in
    let at = c.loop-b in
    let lam = c.clamp-lam.ensures in
    level_more _ at.b _ _ _ _ at.lp c.split-lp.result c.count.ensures.exact (omega (arith, at_most_32 at.b (omega arith))) lam costs.0 costs.1 at.invariant c.split-lp.ensures
