use mathlib.Core.Path.{◌≡◌}
use lib.Ieee.{Float}
use Rattle.seq.specs.Loop.{for}
use Rattle.demap.specs.Shared.{half_turn}
use Rattle.demap.proofs.halves.ByLabel.fold_half.Given as goal

-- whatever step F means
abbrev pub invariant-loop-k : goal.invariant-loop-k
invariant-loop-k g l =
    (f : Float → Float → Float) → ((s x r : Float) → goal.F-post g l.step s x r → r ≡ f s x)
    → l.s ≡ for 0 l.k (half_turn f l.self.at l.self.bps l.b l.bit) l.first
