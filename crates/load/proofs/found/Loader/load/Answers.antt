-- `load` meets its contract: before each turn the lists hold the pilots of the symbols visited. Assumes nothing.
use mathlib.Core.Path.{◌≡◌, ◌∙◌}
use native.Mathlib.Nat.{le_refl}
use native.Mathlib.Omega.{arith}
use lib.ListN.{length-set}
use Rattle.load.proofs.Storing.{all_loaded}
use Rattle.load.proofs.Turns.{room_kept, rows_begin}
use Rattle.load.proofs.found.Loader.load.Goals as goal

pub loop-g-init : goal.loop-g-init
loop-g-init c = let a = c.args in rows_begin a.self.now.source a.self.now.grid.now _ a.w.now a.pf.now (omega arith)

pub returns : goal.returns
returns c =
    let a = c.args in
    let l = c.loop-g in
    let e : l.g ≡ a.self.now.source.ng = omega arith in
    let u = rw e at l.invariant in
    rw (u.marks a.self.now.source.ng (le_refl a.self.now.source.ng)) (all_loaded a.self.now.source a.self.now.grid.now _ l.w l.pf c.args.self.now.fit.map.few c.args.self.now.fit.symbols (room_kept (l.auto.w ∙ simp length-set) l.auto.pf c.requires) u)
