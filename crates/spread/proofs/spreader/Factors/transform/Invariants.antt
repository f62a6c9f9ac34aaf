use Rattle.std.specs.Prelude.{◌≡◌, ◌*◌, ◌++◌, length, drop}
use Rattle.spread.specs.Spreader.{output}
use Rattle.spread.proofs.Pairs.{pairs}
use Rattle.spread.proofs.spreader.Factors.transform.Given as goal

abbrev pub invariant-loop-k : goal.invariant-loop-k
invariant-loop-k l = (length l.b ≡ length l.initial.b) × (l.b ≡ pairs (output l.self.m l.self.tw.now l.inverse l.a) l.k ++ drop (2 * l.k) l.initial.b)
