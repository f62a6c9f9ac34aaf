-- `spoilt` meets its contract.
use Rattle.std.proofs.Common.{◌∙◌}
use Rattle.refine.proofs.Counted.{counted}
use Rattle.refine.proofs.spoilt.spoilt.Goals as goal

pub returns : goal.returns
returns c = c.count.ensures.exact ∙ counted c.args.xs.now
