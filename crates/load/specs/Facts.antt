-- That what the loader asks is a fact: no two proofs of it differ. Assumes nothing.
use Rattle.std.specs.Prelude.{ℕ, List, Float}
use Rattle.std.proofs.Props.{props}
use Rattle.layout.specs.Fit.{FitPhases}
use Rattle.load.specs.Fit.{FitSource}
use Rattle.load.specs.declared.found.Source.{Source}

phases_fact : (nc : ℕ) → IsProp (FitPhases nc)
unfolding FitPhases
phases_fact nc = hlevel props

pub fit_fact : {s : Source} {sigma cells expected : List Float} → IsProp (FitSource s sigma cells expected)
fit_fact = hlevel (props, phases_fact)
