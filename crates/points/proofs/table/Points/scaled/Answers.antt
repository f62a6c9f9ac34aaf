-- `scaled` has scaled each number of the table.
use borrow.Author.Rules.{rules}
use Rattle.points.proofs.Scaling.{scaled_whole}
use Rattle.points.proofs.table.Points.scaled.Goals as goal

pub returns-clause-table : goal.returns-clause-table
returns-clause-table c = scaled_whole _ _ c.loop-v.v-index _ (search rules) (search rules) (search rules) c.loop-v.invariant
