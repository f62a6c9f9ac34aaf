use Prim.Native.Nat.{◌≤◌}
use mathlib.Core.List.{[]}
use mathlib.Core.Path.{◌≡◌}
use lib.ListN.{length}
use Rattle.seq.specs.Loop.{for}
use Rattle.near.specs.Searched.{skips_of}
use Rattle.near.specs.Walk.{push}
use Rattle.near.proofs.Gathered.{Stored}
use Rattle.near.proofs.query.Search.gather.Given as goal

abbrev pub invariant-loop-i : goal.invariant-loop-i
invariant-loop-i l =
    let s = l.self in
    (s.lo ≤ l.i) × (l.i ≤ s.hi) × (l.n ≤ l.i) × (length l.idx ≡ length l.initial.idx) × Stored s.w.k l.idx l.n (for s.lo l.i (push (skips_of s)) [])
