use Rattle.std.proofs.Common.{◌≡◌, ◌≤◌}
use Rattle.seq.specs.Loop.{for}
use Rattle.load.specs.Pilots.{listed}
use Rattle.model.specs.Select.{none, next}
use Rattle.model.proofs.trial.Trial.select_model.Given as goal

abbrev pub invariant-loop-t : goal.invariant-loop-t
invariant-loop-t l = (l.t ≤ 9) × (l.best ≡ for 0 l.t (next l.self.setting (listed l.self.pilots) l.self.pilots.start.now) none)
