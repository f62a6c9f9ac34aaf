-- `all_finite` meets its contract.
use Rattle.std.proofs.Common.{rules, tests}
use Rattle.std.proofs.lemmas.Iterator.{YieldsList-from_slice}
use Rattle.std.proofs.lemmas.Iterator.Search.{all_from_yields_List}
use Rattle.ieee.specs.Order.{is_finite}
use Rattle.scan.proofs.Scanning.{all_is}
use Rattle.scan.proofs.all_finite.Goals as goal

pub returns : goal.returns
returns c =
    let xs = c.args.xs.now in
    rw (all_is is_finite xs) (all_from_yields_List is_finite _ _ _ c.all.ensures.ran (YieldsList-from_slice xs cc) (λ x b q k. search (rules, tests)))
