-- `expect` leaves a copy of the soft points where it spreads them again.
use Prim.Native.Nat.{◌*◌}
use mathlib.Core.Path.{ap}
use mathlib.Core.List.{List, ◌++◌}
use lib.Ieee.{Float}
use lib.ListN.{drop}
use Rattle.expect.proofs.Ways.{expects_spread}
use Rattle.expect.proofs.Modulation.expect.Goals as goal

pub returns-then-s : goal.returns-then-s
returns-then-s c =
    let a = c.args in
    let s = a.self.now.shape in
    let n = s.nsym * s.dc * 3 in
    expects_spread s a.self.now.unit.now.pts a.slots.now a.out.now _ _ a.self.now.bits c.soft_cells.ensures a.soft.now _ _ c.if-s.true (ap (λ (l : List Float). l ++ drop n a.soft.now) c.copy.ensures) c.respread.ensures
