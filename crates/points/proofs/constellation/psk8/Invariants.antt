use mathlib.Core.Path.{◌≡◌}
use Rattle.seq.specs.Loop.{for}
use Rattle.points.specs.Table.{blank}
use Rattle.points.specs.Constellation.{psk8_turn}
use Rattle.points.proofs.constellation.psk8.Given as goal

abbrev pub invariant-loop-m : goal.invariant-loop-m
invariant-loop-m l = l.pts ≡ for 0 l.m psk8_turn blank
