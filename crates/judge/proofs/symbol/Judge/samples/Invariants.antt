use Prim.Native.Nat.{◌+◌, ◌*◌}
use mathlib.Core.List.{◌++◌}
use mathlib.Core.Path.{◌≡◌}
use lib.ListN.{drop}
use Rattle.spread.proofs.Pairs.{pairs}
use Rattle.judge.specs.Cells.{sample_of}
use Rattle.judge.proofs.symbol.Judge.samples.Given as goal

abbrev pub invariant-loop-j : goal.invariant-loop-j
invariant-loop-j l = l.y ≡ pairs (λ k. sample_of l.self.source l.self.grid.now (l.t * l.dc + k)) l.j ++ drop (2 * l.j) l.initial.y
