use Rattle.std.proofs.Common.{◌≡◌, ◌-◌, take, drop}
use Rattle.load.specs.Pilots.{listed}
use Rattle.channel.proofs.records.records.Given as goal

abbrev pub invariant-loop-i : goal.invariant-loop-i
invariant-loop-i l = l.near.items ≡ take (l.i - l.lo) (drop l.lo (listed l.pilots))
