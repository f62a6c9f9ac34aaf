use Prim.Native.Nat.{◌+◌, ◌*◌}
use mathlib.Core.List.{◌++◌}
use mathlib.Core.Path.{◌≡◌}
use lib.Ieee.{nan}
use lib.ListN.{drop, get_or}
use Rattle.seq.specs.Tab.{tab}
use Rattle.ieee.specs.Num.{◌⊞◌, ◌⊠◌}
use Rattle.judge.proofs.symbol.Judge.variances.Given as goal

abbrev pub invariant-loop-j : goal.invariant-loop-j
invariant-loop-j l = l.v ≡ tab l.j (λ k. get_or l.self.cells.now (l.t * l.dc + k) nan ⊞ get_or l.row (3 * k + 2) nan ⊠ (l.gain ⊠ l.gain)) ++ drop l.j l.initial.v
