use Rattle.std.proofs.Common.{rules}
use Rattle.burst.proofs.Received.{more, longer}
use Rattle.burst.proofs.input.read_full.Goals as goal

pub loop-done-preserved : goal.loop-done-preserved
loop-done-preserved g c =
    let part = longer c.loop-done.page c.read.new.buf _ c.loop-done.done c.in_ok-n.n c.loop-done.invariant.bound c.in_ok-n.ensures.bound.0 in
    record {
      bound = search rules;
      bytes = more _ _ _ _ _ _ c.loop-done.invariant.bytes c.in_ok-n.ensures.bytes.0 part;
    }
