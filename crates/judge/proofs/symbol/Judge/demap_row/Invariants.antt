use Prim.Native.Nat.{◌+◌, ◌*◌}
use mathlib.Core.List.{◌++◌}
use mathlib.Core.Path.{◌≡◌}
use lib.ListN.{drop}
use Rattle.seq.specs.Cat.{cat}
use Rattle.judge.specs.Cells.{estimate_in}
use Rattle.judge.specs.Symbol.{demapped_by}
use Rattle.judge.proofs.symbol.Judge.demap_row.Given as goal

abbrev pub invariant-loop-j : goal.invariant-loop-j
invariant-loop-j l = l.out ≡ cat l.j (λ k. demapped_by l.self (l.t * l.dc + k) (estimate_in l.row k)) ++ drop (l.j * l.bps) l.initial.out
