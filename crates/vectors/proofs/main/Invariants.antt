use Rattle.std.proofs.Common.{◌≤◌}
use Rattle.vectors.proofs.main.Given as goal

abbrev pub invariant-loop : goal.invariant-loop
invariant-loop l = record { read : l.t.read ≤ l.counter; differ : l.t.differ ≤ l.t.read }
