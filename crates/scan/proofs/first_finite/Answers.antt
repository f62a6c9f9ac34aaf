-- `first_finite` meets its contract.
use Rattle.std.proofs.Common.{take, rules, tests}
use Rattle.std.proofs.lemmas.Iterator.{YieldsList-from_slice, YieldsList-from_take}
use Rattle.std.proofs.lemmas.Iterator.Search.{all_from_yields_List}
use Rattle.ieee.specs.Order.{is_finite}
use Rattle.scan.proofs.Scanning.{all_is}
use Rattle.scan.proofs.first_finite.Goals as goal

pub returns : goal.returns
returns c =
    let xs = c.args.xs.now in
    let n = c.args.n in
    rw (all_is is_finite (take n xs)) (all_from_yields_List is_finite _ _ _ c.all.ensures.ran (YieldsList-from_take n (YieldsList-from_slice xs cc) cc) (λ x b q k. search (rules, tests)))
