-- `row` meets its contract: before each turn the lists hold the pilots of the carriers visited. Assumes nothing.
use native.Mathlib.Omega.{arith}
use Rattle.load.proofs.Turns.{places_small, row_begins, row_room, row_turns, np_within, row_ends}
use Rattle.load.proofs.found.Loader.row.Goals as goal

pub loop-c-init : goal.loop-c-init
loop-c-init c = row_begins c.args.self.now.source c.args.self.now.grid.now _ c.args.g c.requires.2

pub push-np-requires : goal.push-np-requires
push-np-requires c = omega (arith, row_room c.args.self.now.source c.args.self.now.grid.now _ c.args.g c.requires.1 c.loop-c-test.true c.loop-c.invariant)

pub loop-c-preserved : goal.loop-c-preserved
loop-c-preserved c =
    row_turns c.args.self.now.source c.args.self.now.grid.now _ c.args.g c.loop-c-test.true c.loop-c.invariant (rw (c.found_at-f.ensures, c.at-y.ensures) at c.push-np.ensures)

pub overflow_cast-w : goal.overflow_cast-w
overflow_cast-w c =
    let a = c.args in
    let l = c.loop-c in
    let few = np_within a.self.now.source a.self.now.grid.now _ a.g l.c l.np l.w l.pf c.requires.1 (rw l.auto.w c.requires.0.long_w) c.loop-c-test.false l.invariant in
    omega (arith, few, places_small a.self.now.source c.args.self.now.fit.symbols c.args.self.now.fit.map.few)

pub returns : goal.returns
returns c =
    let a = c.args in
    let l = c.loop-c in
    row_ends a.self.now.source a.self.now.grid.now _ a.g l.c l.np l.w l.pf c.requires.1 (rw l.auto.w c.requires.0.long_w) c.loop-c-test.false l.invariant
