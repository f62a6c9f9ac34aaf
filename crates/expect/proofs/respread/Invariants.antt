use Prim.Native.Nat.{◌*◌}
use mathlib.Core.Path.{◌≡◌}
use mathlib.Core.List.{◌++◌}
use lib.ListN.{drop}
use Rattle.seq.specs.Cat.{cat}
use Rattle.expect.specs.Expect.{spread_row}
use Rattle.expect.proofs.respread.Given as goal

abbrev pub invariant-loop-t : goal.invariant-loop-t
invariant-loop-t l = l.out ≡ cat l.t (λ i. spread_row l.dc l.initial.out i l.gain) ++ drop (l.t * (l.dc * 3)) l.initial.out
