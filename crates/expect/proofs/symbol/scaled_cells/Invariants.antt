use Prim.Native.Nat.{◌*◌}
use mathlib.Core.Path.{◌≡◌}
use mathlib.Core.List.{◌++◌}
use lib.ListN.{drop}
use Rattle.seq.specs.Cat.{cat}
use Rattle.expect.specs.Expect.{scaled_at}
use Rattle.expect.proofs.symbol.scaled_cells.Given as goal

abbrev pub invariant-loop-j : goal.invariant-loop-j
invariant-loop-j l = l.out ≡ cat l.j (scaled_at l.gain l.mv l.row) ++ drop (l.j * 3) l.initial.out
