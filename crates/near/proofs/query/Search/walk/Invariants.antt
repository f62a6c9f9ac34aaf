use Prim.Native.Nat.{◌≤◌}
use mathlib.Core.Path.{◌≡◌}
use lib.ListN.{length}
use Rattle.seq.specs.Loop.{for}
use Rattle.near.specs.Searched.{skips_of, keys_of}
use Rattle.near.specs.Walk.{keep}
use Rattle.near.proofs.query.Search.walk.Given as goal

abbrev pub invariant-loop-i : goal.invariant-loop-i
invariant-loop-i l =
    let s = l.self in
    (l.lo ≤ l.i) × (l.i ≤ l.hi) × (length l.near ≤ s.w.k) × (l.near ≡ for l.lo l.i (keep s.w.k (skips_of s) (keys_of s)) l.initial.near)
