-- `found_at` meets its contract: a known value, a header's data cell, or a data cell by its number. Assumes nothing.
use mathlib.Core.Path.{sym, ◌∙◌}
use native.Mathlib.Omega.{arith}
use Rattle.load.proofs.Counted.{past_first, ncell_small, known_wins, found_early, found_free, cell_below}
use Rattle.load.proofs.found.Loader.found_at.Goals as goal

pub returns-then-is_pilot : goal.returns-then-is_pilot
returns-then-is_pilot c =
    let a = c.args in
    rw c.known.ensures (sym (known_wins a.self.now.source a.self.now.sigma.now a.self.now.cells.now a.self.now.expected.now a.c a.g (sym c.is_pilot.ensures ∙ c.if-is_pilot.true)))

pub returns-then-g-m : goal.returns-then-g-m
returns-then-g-m c =
    let a = c.args in
    sym (found_early a.self.now.source a.self.now.sigma.now a.self.now.cells.now a.self.now.expected.now a.c a.g (sym c.is_pilot.ensures ∙ c.if-is_pilot.false) c.if-g-m.true)

pub cell_index-requires : goal.cell_index-requires
cell_index-requires c =
    let free = sym c.is_pilot.ensures ∙ c.if-is_pilot.false in
    (c.args.self.now.fit.map, past_first c.args.self.now.source.map c.args.c c.args.g free, c.requires.0, free)

pub overflow_add-cell : goal.overflow_add-cell
overflow_add-cell c =
    let a = c.args in
    let free = sym c.is_pilot.ensures ∙ c.if-is_pilot.false in
    let below = cell_below a.self.now.source a.self.now.sigma.now a.self.now.cells.now a.self.now.expected.now c.args.self.now.fit a.g c.if-g-m.false a.c c.requires.0 free c.requires.1 in
    omega (arith, below, ncell_small a.self.now.source a.self.now.sigma.now a.self.now.cells.now a.self.now.expected.now c.args.self.now.fit, c.cell_index.ensures)

pub soft_at-requires : goal.soft_at-requires
soft_at-requires c =
    let a = c.args in
    let free = sym c.is_pilot.ensures ∙ c.if-is_pilot.false in
    let below = cell_below a.self.now.source a.self.now.sigma.now a.self.now.cells.now a.self.now.expected.now c.args.self.now.fit a.g c.if-g-m.false a.c c.requires.0 free c.requires.1 in
    omega (arith, below, c.cell_index.ensures)

pub returns : goal.returns
returns c =
    let a = c.args in
    rw (c.soft_at.ensures, c.cell_index.ensures)
    (sym (found_free a.self.now.source a.self.now.sigma.now a.self.now.cells.now a.self.now.expected.now c.args.self.now.fit a.g c.if-g-m.false a.c c.requires.0 (sym c.is_pilot.ensures ∙ c.if-is_pilot.false)))
