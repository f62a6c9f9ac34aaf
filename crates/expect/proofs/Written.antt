-- How a loop writes the three numbers of each cell. Assumes nothing.
use Prim.Native.Nat.{ℕ, suc, ◌+◌, ◌-◌, ◌*◌, ◌≤◌}
use mathlib.Core.Path.{◌≡◌}
use mathlib.Core.List.{List, ◌++◌, append_assoc}
use native.Mathlib.Numerals.{add-one}
use native.Mathlib.Omega.{arith}
use lib.ListN.{length, set, take, drop}
use lib.Seq.{sets-eq, drop-drop}
use lib.Ieee.{Float}
use Rattle.seq.specs.Cat.{cat}
use Rattle.seq.specs.Cat.Laws.{cat_more}
use Rattle.dsp.specs.declared.Complex.{Complex}
use Rattle.soft.specs.declared.moments.Soft.{Soft}
use Rattle.soft.specs.Soft.{soft_point}
use Rattle.expect.specs.Expect.{cell_numbers, soft_at}

-- the cells below k are written, and x and v, the next one, are put
pub cell_step : (f : ℕ → List Float) → ((j : ℕ) → length (f j) ≡ 3) → (k : ℕ) (l₀ l : List Float) (x : Complex) (v : Float) → 3 * k + 3 ≤ length l
    → l ≡ cat k f ++ drop (k * 3) l₀ → cell_numbers x v ≡ f k → set (set (set l (3 * k) x.re) (3 * k + 1) x.im) (3 * k + 2) v ≡ cat (k + 1) f ++ drop ((k + 1) * 3) l₀
cell_step f h k l₀ l x v b e e' =
    let a : k * 3 ≡ 3 * k = omega arith in
    let two : 3 * k + 2 ≡ suc (suc (3 * k)) = omega arith in
    rw (two, add-one (3 * k), sets-eq (cell_numbers x v) l (3 * k) b, append_assoc, ← drop-drop 3 (3 * k) l)
    (rw (a, ← e') at (cat_more 3 f h k l₀ l e))

-- the soft point of the stretch of priors that is lent
pub soft_cell_lem : (unit : List Float) (bps : ℕ) (sl : List Float) (cell : ℕ) (s : Soft) → s ≡ soft_point (take (cell * bps + bps - cell * bps) (drop (cell * bps) sl)) unit bps
    → cell_numbers s.mean s.var ≡ soft_at unit bps sl cell
unfolding soft_at
soft_cell_lem unit bps sl cell s e = let n : cell * bps + bps - cell * bps ≡ bps = omega arith in rw (e, n)
