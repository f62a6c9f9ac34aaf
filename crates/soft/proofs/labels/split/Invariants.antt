use Prim.Native.Nat.{◌*◌}
use mathlib.Core.Path.{◌≡◌}
use mathlib.Core.List.{◌++◌}
use lib.ListN.{drop}
use Rattle.seq.specs.Tab.{tab}
use Rattle.soft.specs.Tree.{page, child}
use Rattle.soft.proofs.labels.split.Given as goal

abbrev pub invariant-loop-i : goal.invariant-loop-i
invariant-loop-i l = l.out ≡ tab (2 * l.i) (child l.up l.c.zero l.c.one) ++ drop (2 * l.i) page
