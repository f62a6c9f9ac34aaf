use Prim.Native.Nat.{◌*◌}
use mathlib.Core.List.{◌++◌}
use mathlib.Core.Path.{◌≡◌}
use lib.ListN.{drop}
use Rattle.seq.specs.Cat.{cat}
use Rattle.judge.specs.Judge.{answer_of, despread}
use Rattle.judge.proofs.symbol.Judge.despread_cells.Given as goal

abbrev pub invariant-loop-j : goal.invariant-loop-j
invariant-loop-j l = l.out ≡ cat l.j (despread l.self.points.now.pts l.self.shape.bps (answer_of l.e l.z)) ++ drop (l.j * l.bps) l.initial.out
