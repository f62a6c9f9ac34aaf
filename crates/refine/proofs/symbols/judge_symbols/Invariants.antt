use Prim.Native.Nat.{◌*◌}
use Rattle.judge.specs.Symbol.{JudgedUpto}
use Rattle.refine.proofs.symbols.judge_symbols.Given as goal

abbrev pub invariant-loop-t : goal.invariant-loop-t
invariant-loop-t l = JudgedUpto l.j (l.t * l.j.source.dc) l.initial.channel l.initial.answer l.channel l.answer
