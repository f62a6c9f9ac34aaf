use mathlib.Core.List.{map}
use mathlib.Core.Path.{◌≡◌}
use lib.ListN.{length, take}
use Rattle.near.specs.Walk.{index_in}
use Rattle.near.proofs.ordered.Nearest.unpack.Given as goal

abbrev pub invariant-loop-j : goal.invariant-loop-j
invariant-loop-j l = (length l.idx ≡ length l.initial.idx) × (take l.j l.idx ≡ map index_in (take l.j l.self-inside.a))
