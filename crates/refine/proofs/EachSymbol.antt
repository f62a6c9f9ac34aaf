-- The symbols, one after the other.
use Prim.Native.Nat.{ℕ, ◌+◌, ◌*◌}
use native.Mathlib.Nat.{suc-mul, zero-mul}
use native.Mathlib.Numerals.{add-one}
use mathlib.Core.List.{List}
use lib.Ieee.{Float}
use Rattle.load.specs.Pilots.{listed}
use Rattle.judge.specs.declared.symbol.Judge.{Judge}
use Rattle.judge.specs.Symbol.{fitted_in, soft_points, JudgedUpto}
use Rattle.judge.proofs.Laws.{start_upto}

module _ (j : Judge) (e a : List Float) where
  pub upto_none : JudgedUpto j (0 * j.source.dc) e a e a
  upto_none =
      let m = j.estimator in
      rw (zero-mul j.source.dc)
      (start_upto j.source j.shape (fitted_in m) (listed m.pilots) m.pilots.start.now m.rf.now m.rt.now j.points.now.pts (soft_points j.spreading) j.grid.now j.cells.now e a)

  pub upto_next : (t : ℕ) (channel answer : List Float) → JudgedUpto j (t * j.source.dc + j.source.dc) e a channel answer → JudgedUpto j ((t + 1) * j.source.dc) e a channel answer
  upto_next t channel answer u = rw (add-one t, suc-mul t j.source.dc) u
