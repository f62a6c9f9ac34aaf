use Rattle.std.specs.Prelude.{◌≡◌, ◌*◌, ◌++◌, length, drop}
use Rattle.spread.proofs.Pairs.{pairs}
use Rattle.equalize.specs.Sic.{restored_at}
use Rattle.equalize.proofs.canceller.restore.Given as goal

abbrev pub invariant-loop-j : goal.invariant-loop-j
invariant-loop-j l = (length l.z ≡ length l.initial.z) × (l.z ≡ pairs (restored_at l.mu l.xm l.initial.z) l.j ++ drop (2 * l.j) l.initial.z)
