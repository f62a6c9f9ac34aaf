use Prim.Native.Nat.{◌+◌, ◌*◌}
use mathlib.Core.List.{◌++◌}
use mathlib.Core.Path.{◌≡◌}
use lib.ListN.{drop}
use Rattle.seq.specs.Cat.{cat}
use Rattle.load.specs.Find.{mean_at}
use Rattle.judge.specs.Cells.{numbers_of}
use Rattle.judge.specs.Symbol.{estimate_with}
use Rattle.judge.proofs.symbol.Judge.estimate_row.Given as goal

abbrev pub invariant-loop-j : goal.invariant-loop-j
invariant-loop-j l = l.row ≡ cat l.j (λ k. numbers_of (estimate_with l.self (mean_at l.initial.row k) (l.t * l.dc + k))) ++ drop (l.j * 3) l.initial.row
