use mathlib.Core.Path.{◌≡◌}
use mathlib.Core.List.{◌++◌}
use lib.ListN.{drop}
use Rattle.seq.specs.Tab.{tab}
use Rattle.points.proofs.Scaling.{scaled_at}
use Rattle.points.proofs.table.Points.scaled.Given as goal

abbrev pub invariant-loop-v : goal.invariant-loop-v
invariant-loop-v l = l.v-items ≡ tab l.v-index (scaled_at l.self.pts l.gain) ++ drop l.v-index l.self.pts
