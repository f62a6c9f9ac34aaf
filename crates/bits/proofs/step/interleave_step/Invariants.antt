use Rattle.std.proofs.Common.{◌-◌, ◌≤◌}
use Rattle.bits.specs.Step.{start_of, step_of}
use Rattle.bits.proofs.step.interleave_step.Given as goal

abbrev pub invariant-loop-a : goal.invariant-loop-a
invariant-loop-a l = (start_of l.n ≤ l.a) × (l.a ≤ step_of l.n)

abbrev pub decreases-loop-a : goal.decreases-loop-a
decreases-loop-a l = step_of l.n - l.a
