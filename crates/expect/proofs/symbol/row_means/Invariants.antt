use Prim.Native.Nat.{◌+◌, ◌*◌}
use mathlib.Core.Path.{◌≡◌}
use mathlib.Core.List.{◌++◌}
use lib.ListN.{drop}
use Rattle.spread.proofs.Pairs.{pairs}
use Rattle.expect.specs.Expect.{mean_at}
use Rattle.expect.proofs.symbol.row_means.Given as goal

abbrev pub invariant-loop-j : goal.invariant-loop-j
invariant-loop-j l = l.out ≡ pairs (λ i. mean_at l.soft (l.t * l.dc + i)) l.j ++ drop (2 * l.j) l.initial.out
