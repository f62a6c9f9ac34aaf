use Prim.Native.Nat.{ℕ, ◌+◌}
use mathlib.Core.Path.{◌≡◌}
use mathlib.Core.List.{◌++◌}
use lib.ListN.{drop}
use Rattle.seq.specs.Tab.{tab}
use Rattle.near.specs.Walk.{along}
use Rattle.near.proofs.tables.along_all.Given as goal

abbrev pub invariant-loop-j : goal.invariant-loop-j
invariant-loop-j l = l.terms ≡ tab l.j (λ (i : ℕ). along l.q (l.g + i)) ++ drop l.j l.initial.terms
