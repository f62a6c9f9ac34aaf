use Rattle.load.specs.Find.{found_at}
use Rattle.load.specs.Work.{Upto}
use Rattle.load.proofs.found.Loader.load.Given as goal

abbrev pub invariant-loop-g : goal.invariant-loop-g
invariant-loop-g l = Upto l.self.source l.self.grid.now (found_at l.self.source l.self.sigma.now l.self.cells.now l.self.expected.now) l.g l.w l.pf
