-- `make_room` meets its contract: all from j on are greater than x, and have moved one place further.
use Prim.Native.Nat.{◌+◌, ◌-◌}
use mathlib.Core.Path.{◌≡◌}
use native.Mathlib.Omega.{arith}
use Rattle.near.specs.Walk.{same}
use Rattle.near.proofs.Places.{rank_found}
use Rattle.near.proofs.ordered.make_room.Goals as goal

pub returns-then-y-x : goal.returns-then-y-x
returns-then-y-x c =
    let l = c.loop-j in
    let e : l.j - 1 + 1 ≡ l.j = omega arith in
    rw e (omega arith, rank_found same _ _ _ _ (omega arith) c.requires.1 (omega arith) l.invariant.2 (λ h. omega (arith, l.invariant.1.low (l.j - 1) (omega arith), c.if-y-x.true)), l.invariant.1)

pub returns : goal.returns
returns c =
    let l = c.loop-j in
    let e : l.j ≡ 0 = omega arith in
    (omega arith, rank_found same _ _ _ _ (omega arith) c.requires.1 (omega arith) (rw e at l.invariant.2) (λ h. absurd (omega arith)), rw e at l.invariant.1)
