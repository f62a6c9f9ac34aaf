-- `all_variances` meets its contract.
use Rattle.std.proofs.Common.{rules, tests}
use Rattle.std.proofs.lemmas.Iterator.{YieldsList-from_slice}
use Rattle.std.proofs.lemmas.Iterator.Search.{all_from_yields_List}
use Rattle.scan.specs.Fine.{is_variance}
use Rattle.scan.proofs.Scanning.{all_is}
use Rattle.scan.proofs.all_variances.Goals as goal

pub returns : goal.returns
returns c =
    let xs = c.args.xs.now in
    rw (all_is is_variance xs) (all_from_yields_List is_variance _ _ _ c.all.ensures.ran (YieldsList-from_slice xs cc) (λ x b q k. search (rules, tests)))
