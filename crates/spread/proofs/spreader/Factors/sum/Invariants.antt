use Rattle.std.specs.Prelude.{◌≡◌, ℕ, ◌<◌}
use Rattle.seq.specs.Loop.{for}
use Rattle.dsp.specs.declared.Complex.{Complex}
use Rattle.spread.specs.Spreader.{Sum, start, turn}
use Rattle.spread.proofs.spreader.Factors.sum.Given as goal

abbrev pub state : Complex → ℕ → Sum
state acc idx = record { acc = acc; idx = idx }

abbrev pub invariant-loop-j : goal.invariant-loop-j
invariant-loop-j l = (l.idx < l.self.m) × (state l.acc l.idx ≡ for 0 l.j (turn l.self.m l.self.tw.now l.inverse l.a l.k) start)
