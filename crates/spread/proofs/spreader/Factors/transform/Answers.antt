-- `transform` has written those below k, and nothing past them.
use Rattle.std.proofs.Common.{◌∙◌, arith}
use Rattle.spread.specs.Spreader.{output}
use Rattle.spread.proofs.Pairs.{pairs_step}
use Rattle.spread.proofs.Spreading.{output_of}
use Rattle.spread.proofs.spreader.Factors.transform.Goals as goal

pub loop-k-preserved : goal.loop-k-preserved
loop-k-preserved c =
    let l = c.loop-k in
    let s = c.args in
    let z = output s.self.now.m s.self.now.tw.now s.inverse s.a.now in
    let is = output_of s.self.now.m s.self.now.tw.now s.inverse s.a.now l.k _ _ _ c.scale.ensures c.sum-acc.ensures c.unitary-s.ensures in (
      c.put.auto.xs ∙ l.invariant.0,
      rw c.put.ensures (pairs_step z l.k s.b.now l.b _ (omega arith) l.invariant.1 is),
    )
