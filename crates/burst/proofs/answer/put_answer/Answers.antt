use Rattle.std.proofs.Common.{◌+◌, ◌-◌, ◌*◌, ◌++◌, ap, ◌∙◌, arith, append_assoc}
use Rattle.burst.specs.Lines.{answer_lines}
use Rattle.burst.proofs.Fours.{lines_part}
use Rattle.burst.proofs.answer.put_answer.Goals as goal

pub returns : goal.returns
unfolding answer_lines
returns c =
    let lines = lines_part c.args.answer.now 10 c.args.n (10 + 4 * c.args.n - 10) (omega arith) (omega arith) in
    c.put_lines.ensures
    ∙ (ap (λ l. c.put_heading.new.text.items ++ l) lines ∙ rw (c.put_heading.ensures.items, c.word_at-scale.ensures, c.word_at-spoilt.ensures) (simp append_assoc))
