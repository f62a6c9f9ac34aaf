use Rattle.std.proofs.Common.{◌≡◌, ◌≤◌, length}
use Rattle.seq.specs.Loop.{for}
use Rattle.est.specs.Columns.{carriers, symbols, variances}
use Rattle.est.specs.Covariance.{zeros2, row_var}
use Rattle.est.proofs.neighbours.Neighbours.cov_fill.Given as goal

abbrev pub invariant-loop-i : goal.invariant-loop-i
invariant-loop-i l =
    (l.i ≤ length l.self.ps.now) × (l.a ≡ for 0 l.i (row_var l.self.field l.self.rf.now l.self.rt.now (carriers l.self.ps.now) (symbols l.self.ps.now) (variances l.self.ps.now)) zeros2)
