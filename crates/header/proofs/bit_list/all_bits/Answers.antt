-- `all_bits` meets its contract: std's `all`, under the definition's own recursion.
use Rattle.std.proofs.Common.{◌∙◌, ltb, rules, tests}
use Rattle.std.proofs.lemmas.Iterator.{YieldsList-from_slice}
use Rattle.std.proofs.lemmas.Iterator.Search.{all_from_yields_List}
use Rattle.header.proofs.Digits.{as_list_all}
use Rattle.header.proofs.bit_list.all_bits.Goals as goal

pub returns : goal.returns
returns c =
    let bits = c.args.bits.now in
    all_from_yields_List (λ b. ltb b 2) _ _ c.all.result c.all.ensures.ran (YieldsList-from_slice bits cc) (λ x b q k. search (rules, tests)) ∙ as_list_all bits
