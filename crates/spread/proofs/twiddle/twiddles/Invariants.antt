use Rattle.std.specs.Prelude.{◌≡◌, ◌*◌, ◌++◌, length, drop, replicate}
use Rattle.ieee.specs.Num.{zero32}
use Rattle.spread.specs.Spreader.{twiddle}
use Rattle.spread.proofs.Pairs.{pairs}
use Rattle.spread.proofs.twiddle.twiddles.Given as goal

abbrev pub invariant-loop-k : goal.invariant-loop-k
invariant-loop-k l = (length l.tw ≡ 218) × (l.tw ≡ pairs (twiddle l.m) l.k ++ drop (2 * l.k) (replicate 218 zero32))
