-- `judge` meets its contract.
use Rattle.std.proofs.Common.{ℕ, ◌*◌, ◌≡◌, length, take, sym, ap, ◌∙◌, arith}
use lib.Seq.{length-take-le}
use Rattle.wire.specs.declared.shape.Sizes.{Sizes}
use Rattle.record.proofs.Cutting.{few, bits_in, cells_in}
use Rattle.record.proofs.Judged.{in_bytes, judges}
use Rattle.record.proofs.judging.judge.Goals as goal

pub slice_bounds-answer-end-2 : goal.slice_bounds-answer-end-2
slice_bounds-answer-end-2 c = sym (length-take-le _ c.refine_numbers.new.answer (omega (arith, (few _ _ c.sizes_of-z.ensures c.requires.whole.short).bits, c.refine_numbers.array_long)))

pub slice_bounds-estimates-end-2 : goal.slice_bounds-estimates-end-2
slice_bounds-estimates-end-2 c = sym (length-take-le _ c.refine_numbers.new.channel (omega (arith, (few _ _ c.sizes_of-z.ensures c.requires.whole.short).cells, c.refine_numbers.array_long2)))

pub put_answer-requires : goal.put_answer-requires
put_answer-requires c =
    let b = in_bytes _ _ _ _ _ _ _ _ c.in_ok-r.was c.refine_numbers.ensures in
    let h = few _ _ c.sizes_of-z.ensures c.requires.whole.short in
    let n : length (take c.sizes_of-z.result.nbits c.refine_numbers.new.answer) ≡ c.sizes_of-z.result.nbits = length-take-le _ _ (omega (arith, h.bits, c.refine_numbers.array_long)) in
    (b.0, b.1, omega (arith, n, c.requires.out_room, ap (λ (z : Sizes). z.nbits) c.sizes_of-z.ensures))

pub returns : goal.returns
returns c =
    let f = c.args.f in
    let nums = c.args.nums.now in
    let k = c.refine_numbers in
    let e = c.sizes_of-z.ensures in
    let h = few f _ e c.requires.whole.short in
    let eb = ap (λ (z : Sizes). z.nbits) e ∙ sym (bits_in f nums) in
    let ec = ap (λ (z : Sizes). z.ncell) e ∙ sym (cells_in f nums) in
    judges _ _ _ _ _ _ _ _ c.in_ok-r.was k.ensures c.sizes_of-z.result.nbits (3 * c.sizes_of-z.result.ncell) _ _ _ _ k.array_long k.array_long2
    (omega (arith, h.bits, eb)) (omega (arith, h.cells, ec)) eb (ap (λ (n : ℕ). 3 * n) ec) c.put_answer.ensures c.put_numbers.ensures
