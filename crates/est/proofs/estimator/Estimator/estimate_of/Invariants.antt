use Rattle.std.proofs.Common.{◌≡◌, length, map, take}
use Rattle.load.specs.Pilots.{listed}
use Rattle.near.specs.Search.{pilot}
use Rattle.est.proofs.estimator.Estimator.estimate_of.Given as goal

abbrev pub invariant-loop-j : goal.invariant-loop-j
invariant-loop-j l = (length l.ps ≡ 40) × (take l.j l.ps ≡ map (pilot (listed l.self.pilots)) (take l.j l.idx))
