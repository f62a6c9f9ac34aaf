use Rattle.std.proofs.Common.{◌≡◌, ◌++◌, drop}
use Rattle.seq.specs.Tab.{tab}
use Rattle.load.specs.Pilots.{listed}
use Rattle.model.specs.Select.{tried}
use Rattle.bursts.proofs.models.residuals.Given as goal

abbrev pub invariant-loop-t : goal.invariant-loop-t
invariant-loop-t l = l.r-items ≡ tab l.t (λ i. (tried l.trial.setting (listed l.trial.pilots) l.trial.pilots.start.now i).r) ++ drop l.t l.initial.r-items
