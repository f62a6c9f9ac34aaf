-- `terms` meets its contract: the tables it fills are right.
use Rattle.std.proofs.Common.{rules}
use Rattle.near.proofs.Terms.{right}
use Rattle.near.proofs.query.Search.terms.Goals as goal

pub returns : goal.returns
returns c = right _ c.across_all.ensures (search rules) c.along_all.ensures
