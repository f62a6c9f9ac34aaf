-- That what a trial holds is a fact: no two proofs of it differ. Assumes nothing.
use Rattle.std.proofs.Props.{props}
use Rattle.layout.specs.declared.layouts.Layout.{Layout}
use Rattle.model.specs.Values.{FitModels}

pub models_fact : (l : Layout) → IsProp (FitModels l)
unfolding FitModels
models_fact l = hlevel props
