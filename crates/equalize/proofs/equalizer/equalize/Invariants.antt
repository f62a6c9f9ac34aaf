use Rattle.std.specs.Prelude.{◌≡◌, ◌*◌, ◌++◌, length, drop}
use Rattle.seq.specs.Loop.{for}
use Rattle.spread.proofs.Pairs.{pairs}
use Rattle.equalize.specs.Fde.{none, turn, filtered}
use Rattle.equalize.proofs.equalizer.equalize.Given as goal

abbrev pub invariant-loop-j : goal.invariant-loop-j
invariant-loop-j l = record {
  length : length l.z ≡ length l.initial.z;
  symbols : l.z ≡ pairs (filtered l.r.h.now l.r.v.now l.r.gain l.r.y.now) l.j ++ drop (2 * l.j) l.initial.z;
  sums : l.s ≡ for 0 l.j (turn l.r.h.now l.r.v.now l.r.gain) none;
}
