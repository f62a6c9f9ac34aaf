use Rattle.std.proofs.Common.{◌≡◌}
use Rattle.seq.specs.Loop.{for}
use Rattle.solve.specs.Solve.{zeros}
use Rattle.est.specs.Columns.{carriers, symbols}
use Rattle.est.specs.Covariance.{rhs_at}
use Rattle.est.proofs.neighbours.Neighbours.rhs_fill.Given as goal

abbrev pub invariant-loop-i : goal.invariant-loop-i
invariant-loop-i l = l.rhs ≡ for 0 l.i (rhs_at l.self.field l.self.rf.now l.self.rt.now (carriers l.self.ps.now) (symbols l.self.ps.now) l.self.q) zeros
