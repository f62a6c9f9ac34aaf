use mathlib.Core.Path.{◌≡◌}
use mathlib.Core.List.{◌++◌}
use lib.ListN.{drop}
use Rattle.seq.specs.Tab.{tab}
use Rattle.demap.specs.Demap.{likelihood_of}
use Rattle.demap.proofs.likelihoods.demap.Given as goal

abbrev pub invariant-loop-b : goal.invariant-loop-b
invariant-loop-b l = l.l-items ≡ tab l.b (likelihood_of l.w.d.at l.w.d.bps) ++ drop l.b l.initial.l-items
