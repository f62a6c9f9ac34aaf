-- `symbol::spread_variance` rounds as the source does.
use Rattle.expect.specs.Expect.{spread_variance}
use Rattle.expect.proofs.Sums.{row_sum_is}
use Rattle.expect.proofs.symbol.spread_variance.Goals as goal

pub returns : goal.returns
unfolding spread_variance
returns c = rw (c.row_sum.ensures, row_sum_is c.args.sp.now.m c.args.points.now 0)
