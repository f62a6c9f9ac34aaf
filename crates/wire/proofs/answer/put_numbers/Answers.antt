-- `put_numbers` has written the numbers below i, four bytes each.
use Rattle.std.proofs.Common.{◌*◌, ap, ◌∙◌, get_or}
use lib.Ieee.{nan}
use Rattle.seq.specs.Cat.Laws.{cat-none, cat_more, returned}
use Rattle.words.specs.Bytes.{word, number}
use Rattle.words.proofs.Stored.{length_word}
use Rattle.wire.proofs.answer.put_numbers.Goals as goal

pub loop-i-init : goal.loop-i-init
loop-i-init c = record { written = cat-none 4 _ _ }

pub loop-i-preserved : goal.loop-i-preserved
loop-i-preserved c = let l = c.loop-i in record {
  written = returned (l.i * 4) 4 l.out _ (number (get_or c.args.src.now l.i nan)) (c.put_word.ensures ∙ ap word c.f32_to_bits_with_nan.ensures)
      ∙ cat_more 4 _ (λ k. length_word _) l.i c.args.out.now l.out l.invariant.written;
}
