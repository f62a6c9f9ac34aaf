use Rattle.load.specs.Find.{found_at}
use Rattle.load.proofs.Turns.{InRow}
use Rattle.load.proofs.found.Loader.row.Given as goal

abbrev pub invariant-loop-c : goal.invariant-loop-c
invariant-loop-c l = InRow l.self.source l.self.grid.now (found_at l.self.source l.self.sigma.now l.self.cells.now l.self.expected.now) l.g l.c l.w l.pf l.np
