use Rattle.std.proofs.Common.{◌≡◌, ◌+◌, ◌*◌, ◌≤◌, ◌++◌, length}
use Rattle.seq.specs.Cat.{cat}
use Rattle.words.specs.Bytes.{word_at}
use Rattle.burst.specs.Lines.{line_of}
use Rattle.burst.proofs.answer.put_lines.Given as goal

abbrev pub invariant-loop-bytes : goal.invariant-loop-bytes
invariant-loop-bytes l =
    record {
      items : l.text.items ≡ l.initial.text.items ++ cat l.bytes-index (λ i. line_of (word_at l.numbers (4 * i)));
      room : length l.text.items ≤ length l.initial.text.items + l.bytes-index * 9;
    }
