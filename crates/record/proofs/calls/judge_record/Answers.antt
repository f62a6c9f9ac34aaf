-- `judge_record` meets its contract.
use Rattle.std.proofs.Common.{ℕ, ◌+◌, ◌-◌, ◌*◌, ◌/◌, ◌≤◌, ◌≡◌, length, refl, sym, arith}
use lib.Seq.{length-take-le}
use Rattle.wire.proofs.Shaped.{shaped}
use Rattle.record.proofs.Cutting.{may_judge, of_record}
use Rattle.record.proofs.Answering.{both}
use Rattle.record.proofs.calls.judge_record.Goals as goal

pub overflow_sub-n : goal.overflow_sub-n
overflow_sub-n c = (shaped _ c.requires.shaped).long

pub slice_bounds-page-end : goal.slice_bounds-page-end
slice_bounds-page-end c = omega (arith, (shaped _ c.requires.shaped).most)

pub slice_bounds-nums-end : goal.slice_bounds-nums-end
slice_bounds-nums-end c = sym (length-take-le _ _ (omega (arith, (shaped _ c.requires.shaped).most)))

-- the bytes of as many numbers as the length says
enough : (l n k : ℕ) → n ≡ (l - 6) / 4 → 6 ≤ l → k ≡ n → 6 + 4 * k ≤ l
enough l n k e h q = omega arith

pub numbers-requires : goal.numbers-requires
numbers-requires c =
    let s = shaped _ c.requires.shaped in
    enough (length c.args.«record».now) _ _ refl s.long (length-take-le _ _ (omega (arith, s.most)))

pub head-requires : goal.head-requires
head-requires c = (shaped _ c.requires.shaped).long

pub judge-requires-clause-whole : goal.judge-requires-clause-whole
judge-requires-clause-whole c = may_judge c.args.«record».now _ _ _ _ c.head.ensures c.fields_of.ensures (shaped _ c.requires.shaped) (length-take-le _ _ (omega (arith, (shaped _ c.requires.shaped).most))) c.numbers.ensures

pub returns : goal.returns
returns c =
    let r = c.args.«record».now in
    let s = shaped r c.requires.shaped in
    both r c.args.out.now c.args.channel.now _ _ _ c.requires.shaped c.requires.out_room c.requires.channel_room
    (of_record r _ _ _ _ c.head.ensures c.fields_of.ensures s (length-take-le _ _ (omega (arith, s.most))) c.numbers.ensures _ _ _ _ _ c.judge.ensures)
