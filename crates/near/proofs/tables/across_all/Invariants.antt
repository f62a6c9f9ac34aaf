use mathlib.Core.Path.{◌≡◌}
use mathlib.Core.List.{◌++◌}
use lib.ListN.{drop}
use Rattle.seq.specs.Tab.{tab}
use Rattle.near.specs.Walk.{across}
use Rattle.near.proofs.tables.across_all.Given as goal

abbrev pub invariant-loop-c : goal.invariant-loop-c
invariant-loop-c l = l.terms ≡ tab l.c (across l.q) ++ drop l.c l.initial.terms
