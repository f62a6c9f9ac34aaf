-- `put_answer` meets its contract: the report in front, the numbers from place 10 to the end.
use Rattle.std.proofs.Common.{◌*◌, length, sym, append_assoc}
use lib.Seq.{drop-drop}
use Rattle.wire.specs.Bytes.{report_bytes, number_bytes}
use Rattle.wire.proofs.answer.put_answer.Goals as goal

pub returns : goal.returns
returns c =
    let xs = c.args.answer.now in
    rw (c.put_report.ensures, c.put_numbers.ensures, c.split_at_mut-report.ensures.back, drop-drop (4 * length xs) 10 c.args.out.now)
    (sym (append_assoc (report_bytes c.args.r) (number_bytes (length xs) xs) _))
