-- `symbol::row_variance` rounds as the source does.
use Rattle.expect.specs.Expect.{row_variance}
use Rattle.expect.proofs.Sums.{row_sum_is}
use Rattle.expect.proofs.symbol.row_variance.Goals as goal

pub returns : goal.returns
unfolding row_variance
returns c = rw (c.row_sum.ensures, row_sum_is c.args.dc c.args.soft.now c.args.t)
