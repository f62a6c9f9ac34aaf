use Rattle.std.proofs.Common.{◌≡◌}
use Rattle.seq.specs.Loop.{for}
use Rattle.est.specs.Columns.{carriers, symbols}
use Rattle.est.specs.Covariance.{pair}
use Rattle.est.proofs.neighbours.Neighbours.row_fill.Given as goal

abbrev pub invariant-loop-j : goal.invariant-loop-j
invariant-loop-j l = l.a ≡ for 0 l.j (pair l.self.field l.self.rf.now l.self.rt.now (carriers l.self.ps.now) (symbols l.self.ps.now) l.i) l.initial.a
