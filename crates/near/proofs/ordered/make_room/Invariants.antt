use Prim.Native.Nat.{ℕ, ◌≤◌, ◌<◌}
use lib.ListN.{get_or}
use Rattle.near.specs.Walk.{Moved}
use Rattle.near.proofs.ordered.make_room.Given as goal

abbrev pub invariant-loop-j : goal.invariant-loop-j
invariant-loop-j l = (l.j ≤ l.m) × Moved l.initial.a l.m l.a l.j × ((i : ℕ) → l.j ≤ i → i < l.m → l.x < get_or l.initial.a i 0)
