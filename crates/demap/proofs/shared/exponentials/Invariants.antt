use Prim.Native.Nat.{ℕ}
use mathlib.Core.Path.{◌≡◌}
use mathlib.Core.List.{◌++◌}
use lib.ListN.{drop}
use Rattle.seq.specs.Tab.{tab}
use Rattle.ieee.specs.Num.{◌⊟◌}
use Rattle.elementary.specs.Exp.{exp_at}
use Rattle.demap.specs.Demap.{at}
use Rattle.demap.proofs.shared.exponentials.Given as goal

abbrev pub invariant-loop-x : goal.invariant-loop-x
invariant-loop-x l = l.x-items ≡ tab l.x-index (λ (j : ℕ). exp_at (at l.initial.x-items j ⊟ l.m)) ++ drop l.x-index l.initial.x-items
