-- What is made of the chosen pilots: the definitions of `Covariance` and `Estimate`, at what `Neighbours` holds.
use Rattle.std.specs.Prelude.{List, Float}
use Rattle.est.specs.Columns.{carriers, symbols, variances, reals, imaginaries}
use Rattle.est.specs.Covariance.{rhs_of, cov_of}
use Rattle.est.specs.Estimate.{weights, combined}
use Rattle.est.specs.declared.combine.Estimate.{Estimate}
use Rattle.est.specs.declared.neighbours.Neighbours.{Neighbours}

module _ (n : Neighbours) where
  abbrev pub rhs_for : List Float
  rhs_for = rhs_of n.field n.rf.now n.rt.now (carriers n.ps.now) (symbols n.ps.now) n.q

  abbrev pub covariance_for : List Float
  covariance_for = cov_of n.field n.rf.now n.rt.now (carriers n.ps.now) (symbols n.ps.now) (variances n.ps.now)

  abbrev pub weights_for : List Float
  weights_for = weights n.field n.rf.now n.rt.now n.q (carriers n.ps.now) (symbols n.ps.now) (variances n.ps.now)

  abbrev pub combined_for : Estimate
  combined_for = combined n.field n.rf.now n.rt.now n.q (carriers n.ps.now) (symbols n.ps.now) (variances n.ps.now) (reals n.ps.now) (imaginaries n.ps.now)
