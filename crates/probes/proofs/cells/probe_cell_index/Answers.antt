-- `probes::probe_cell_index`: what is no pilot is not in symbol 0.
use mathlib.Core.Path.{sym, ◌∙◌}
use native.Mathlib.Omega.{arith}
use Rattle.load.proofs.Counted.{past_first}
use Rattle.probes.proofs.cells.probe_cell_index.Goals as goal

pub cell_index-requires : goal.cell_index-requires
cell_index-requires c = let e = sym c.is_pilot.ensures ∙ c.if-is_pilot.false in (c.map_of-m.ensures.1, past_first _ _ _ e, omega arith, e)
