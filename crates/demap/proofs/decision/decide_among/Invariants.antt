use mathlib.Core.Path.{◌≡◌}
use Rattle.seq.specs.Loop.{for}
use Rattle.demap.specs.Decide.{farthest, decide_turn}
use Rattle.demap.proofs.decision.decide_among.Given as goal

abbrev pub invariant-loop-k : goal.invariant-loop-k
invariant-loop-k l = l.best ≡ for 0 l.k (decide_turn l.y l.h l.table) farthest
