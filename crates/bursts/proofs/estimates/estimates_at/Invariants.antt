use Rattle.std.proofs.Common.{◌≡◌, ◌*◌, ◌++◌, get_or, drop}
use Rattle.seq.specs.Cat.{cat}
use Rattle.bursts.specs.Estimating.{flat_estimate, estimate_with}
use Rattle.bursts.proofs.estimates.estimates_at.Given as goal

abbrev pub invariant-loop-i : goal.invariant-loop-i
invariant-loop-i l = l.out ≡ cat l.i (λ k. flat_estimate (estimate_with l.e (get_or l.at k 0))) ++ drop (l.i * 3) l.initial.out
