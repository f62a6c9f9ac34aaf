use Prim.Native.Nat.{ℕ}
use mathlib.Core.Path.{◌≡◌}
use mathlib.Core.List.{◌++◌}
use lib.ListN.{drop}
use Rattle.seq.specs.Tab.{tab}
use Rattle.points.specs.Table.{point_at}
use Rattle.demap.specs.Demap.{metric_of}
use Rattle.demap.proofs.metrics.metrics.Given as goal

abbrev pub invariant-loop-k : goal.invariant-loop-k
invariant-loop-k l = l.d-items ≡ tab l.k (λ (j : ℕ). metric_of l.c (point_at l.pts.pts j)) ++ drop l.k l.initial.d-items
