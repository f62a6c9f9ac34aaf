use Rattle.std.specs.Prelude.{◌≡◌, ℕ, ◌+◌, ◌<◌, ◌≤◌, length}
use Rattle.ieee.specs.Num.{◌⊖◌, ◌⊗◌}
use Rattle.solve.specs.Solve.{at, at2}
use Rattle.solve.proofs.rows.subtract.Given as goal

abbrev pub invariant-loop-r : goal.invariant-loop-r
invariant-loop-r g l =
    (length l.s ≡ g.row.N)
    × ((x : ℕ) → x < l.r → at l.s x ≡ at l.initial.s x ⊖ at2 l.a (l.i + x) l.p ⊗ l.m)
    × ((x : ℕ) → l.r ≤ x → at l.s x ≡ at l.initial.s x)
