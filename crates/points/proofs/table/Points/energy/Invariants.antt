use mathlib.Core.Path.{◌≡◌}
use Rattle.seq.specs.Loop.{for}
use Rattle.points.specs.Power.{minus_zero, energy_turn}
use Rattle.points.proofs.table.Points.energy.Given as goal

abbrev pub invariant-loop-k : goal.invariant-loop-k
invariant-loop-k l = l.sum ≡ for 0 l.k (energy_turn l.self.pts) minus_zero
