use Rattle.std.proofs.Common.{◌≡◌, ◌*◌, ◌/◌, [], length, get_or, sym, ap, ◌∙◌, arith, rules, add-one, append-nil, append_assoc}
use Rattle.seq.specs.Cat.Laws.{cat_zero, cat_suc}
use Rattle.words.specs.Bytes.{word_at}
use Rattle.burst.proofs.Fours.{word_in}
use Rattle.burst.proofs.answer.put_lines.Goals as goal

pub loop-bytes-init : goal.loop-bytes-init
loop-bytes-init c = record { items = rw cat_zero (sym (append-nil _)); room = search rules }

pub loop-bytes-preserved : goal.loop-bytes-preserved
loop-bytes-preserved c =
    let l = c.loop-bytes in
    let xs = c.args.numbers.now in
    let e : c.word_at.result ≡ word_at xs (4 * l.bytes-index) =
    c.word_at.ensures ∙ (ap (λ fs. word_at (get_or fs l.bytes-index []) 0) c.as_chunks.ensures.front ∙ word_in l.bytes-index (length xs / 4) xs (omega arith)) in
    record {
      items = rw (add-one l.bytes-index, cat_suc, c.put_line.ensures.items, l.invariant.items, e) (simp append_assoc);
      room = omega (arith, l.invariant.room, c.put_line.ensures.upper_bound);
    }

pub returns : goal.returns
returns c = let e : c.loop-bytes.bytes-index ≡ length c.args.numbers.now / 4 = omega arith in rw e at c.loop-bytes.invariant.items
