-- `crc16` meets its contract: the fold is the register, which ends with the check bits.
use Rattle.std.proofs.Common.{◌∙◌, rules, tests}
use Rattle.std.proofs.lemmas.Iterator.{YieldsList-from_slice}
use Rattle.std.proofs.lemmas.Iterator.Consumers.{fold_from_yields_List}
use Rattle.header.specs.Check.{shifted}
use Rattle.header.proofs.Register.{folded_all}
use Rattle.header.proofs.check.crc16.Goals as goal

pub returns : goal.returns
returns c =
    let bits = c.args.bits.now in
    fold_from_yields_List _ shifted 0xFFFF c.fold.result c.fold.ensures.ran (YieldsList-from_slice bits cc) (λ a x b q k. search (rules, tests)) ∙ folded_all bits
