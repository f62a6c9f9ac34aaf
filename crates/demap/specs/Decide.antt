-- est.rs, `decide`, line by line.
use Rattle.std.specs.Prelude.{ℕ, ◌^◌, cond, false, List, Float}
use Rattle.std.specs.Float.{inf}
use Rattle.std.specs.Float.Ieee.{lt}
use Rattle.seq.specs.Loop.{for}
use Rattle.dsp.specs.declared.Complex.{Complex}
use Rattle.dsp.specs.Arithmetic.{zeroᶜ}
use Rattle.points.specs.Table.{point_at}
use Rattle.demap.specs.declared.decision.Decision.{Decision}
use Rattle.demap.specs.Demap.{distance_of}

-- if e < best { best = e; bx = x; }
unfoldable pub nearer_of : Decision → Float → Complex → Decision
nearer_of best e x = cond (lt e best.e) (record { e = e; x = x }) best

-- with e = (y - h * x).norm_sqr()
unfoldable pub decide_turn : Complex → Complex → List Float → ℕ → Decision → Decision
decide_turn y h pts k best = let x = point_at pts k in nearer_of best (distance_of y h x) x

-- (f32::INFINITY, Complex::ZERO)
abbrev pub farthest : Decision
farthest = record { e = inf false; x = zeroᶜ }

-- for &x in &pts.pts[..pts.count()]
unfoldable pub decide_of : Complex → Complex → List Float → ℕ → Complex
decide_of y h pts bps = (for 0 (2 ^ bps) (decide_turn y h pts) farthest).x
