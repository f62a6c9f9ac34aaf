-- Before each turn the records below i are in the lent lists.
use Rattle.std.proofs.Common.{length}
use Rattle.listed.proofs.Filled.{Filled}
use Rattle.listed.proofs.estimate.Given as goal

abbrev pub invariant-loop-i : goal.invariant-loop-i
invariant-loop-i l = Filled l.ps (length l.initial.w) (length l.initial.pf) l.i l.w l.pf
