use Prim.Native.Nat.{◌*◌}
use mathlib.Core.Path.{◌≡◌}
use mathlib.Core.List.{◌++◌}
use lib.ListN.{drop}
use Rattle.seq.specs.Cat.{cat}
use Rattle.expect.specs.Expect.{soft_at}
use Rattle.expect.proofs.cells.soft_cells.Given as goal

abbrev pub invariant-loop-cell : goal.invariant-loop-cell
invariant-loop-cell l = l.out ≡ cat l.cell (soft_at l.unit.pts l.unit.bps l.sl) ++ drop (l.cell * 3) l.initial.out
