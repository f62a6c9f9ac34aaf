-- `parse_bits` meets its contract, a lemma an answer.
use Rattle.std.proofs.Common.{sym, ◌∙◌, arith}
use Rattle.header.proofs.Masks.{is_data_mask, is_only_mask}
use Rattle.header.proofs.Reading.{no_layout, no_bits, no_symbols, some_data, header_only_lem, no_check, does_fit, no_fit}
use Rattle.header.proofs.parse.parse_bits.Goals as goal

pub returns-then-layout-gt8 : goal.returns-then-layout-gt8
returns-then-layout-gt8 c = no_layout _ _ (omega arith)

pub returns-then-not-all_bits : goal.returns-then-not-all_bits
returns-then-not-all_bits c = no_bits _ _ (omega arith) (sym c.all_bits.ensures ∙ c.if-not-all_bits.true)

pub returns-then-info-eq0 : goal.returns-then-info-eq0
returns-then-info-eq0 c =
    no_symbols _ _ (omega arith) (sym c.all_bits.ensures ∙ c.if-not-all_bits.false) _ (rw c.split_at.ensures.front at c.read_bits-info.ensures)
    (does_fit _ _ _ _ _ _ _ _ c.split_at.ensures.front c.split_at.ensures.back c.read_bits-check.ensures c.crc16-calc.ensures (is_data_mask _ _ c.layout-masks.ensures) c.from.ensures c.if-check-from.true)
    c.if-info-eq0.true

pub returns-then-check-from : goal.returns-then-check-from
returns-then-check-from c =
    some_data _ _ (omega arith) (sym c.all_bits.ensures ∙ c.if-not-all_bits.false) _ (rw c.split_at.ensures.front at c.read_bits-info.ensures) _
    (does_fit _ _ _ _ _ _ _ _ c.split_at.ensures.front c.split_at.ensures.back c.read_bits-check.ensures c.crc16-calc.ensures (is_data_mask _ _ c.layout-masks.ensures) c.from.ensures c.if-check-from.true)
    c.if-info-eq0.false
    c.data_from.ensures

pub returns-then-check-from-2 : goal.returns-then-check-from-2
returns-then-check-from-2 c =
    header_only_lem _ _ (omega arith) (sym c.all_bits.ensures ∙ c.if-not-all_bits.false) _ (rw c.split_at.ensures.front at c.read_bits-info.ensures) _
    (no_fit _ _ _ _ _ _ _ _ c.split_at.ensures.front c.split_at.ensures.back c.read_bits-check.ensures c.crc16-calc.ensures (is_data_mask _ _ c.layout-masks.ensures) c.from.ensures c.if-check-from.false)
    (does_fit _ _ _ _ _ _ _ _ c.split_at.ensures.front c.split_at.ensures.back c.read_bits-check.ensures c.crc16-calc.ensures (is_only_mask _ _ c.layout-masks.ensures) c.from-2.ensures c.if-check-from-2.true)
    c.only_from.ensures

pub returns : goal.returns
returns c =
    no_check _ _ (omega arith) (sym c.all_bits.ensures ∙ c.if-not-all_bits.false) _ (rw c.split_at.ensures.front at c.read_bits-info.ensures)
    (no_fit _ _ _ _ _ _ _ _ c.split_at.ensures.front c.split_at.ensures.back c.read_bits-check.ensures c.crc16-calc.ensures (is_data_mask _ _ c.layout-masks.ensures) c.from.ensures c.if-check-from.false)
    (no_fit _ _ _ _ _ _ _ _ c.split_at.ensures.front c.split_at.ensures.back c.read_bits-check.ensures c.crc16-calc.ensures (is_only_mask _ _ c.layout-masks.ensures) c.from-2.ensures c.if-check-from-2.false)
