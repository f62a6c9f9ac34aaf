-- exp(x), only for x ≤ 0: document 01's recipe, letter by letter.
use Rattle.std.specs.Prelude.{ℕ, ◌-◌, ◌*◌, ◌/◌, ◌^◌, false, cond, Float}
use Rattle.std.specs.Float.{nan, inf, fin, binary32}
use Rattle.std.specs.Float.Ieee.{round, lt}
use Rattle.elementary.specs.Constants.{zero+, minus87}
use Rattle.elementary.specs.FixedPoint.{M, L, whole_of, turns, down_to}

-- P = M - ((f P // M) // j)
abbrev pub exp_turn : ℕ → ℕ → ℕ → ℕ
exp_turn f j P = M - f * P / M / j

-- P = M, then for j = 12 down to 1 that
unfoldable pub exp_sum : ℕ → ℕ
unfolding turns
exp_sum f = down_to 12 1 (exp_turn f) M

-- n = Q // L, f = Q - n L; the f32 nearest P / (M * 2 ^ n)
unfoldable pub exp_fixed : ℕ → Float
unfolding exp_sum
exp_fixed Q =
    let n = Q / L in
    let f = Q - n * L in
    let P = exp_sum f in
    round binary32 false P (M * 2 ^ n)

-- 0 where x < -87, else Q = |x| M rounded down
unfoldable pub exp_at : Float → Float
unfolding whole_of exp_fixed
exp_at nan = nan
exp_at (inf s) = zero+
exp_at (fin s m e) = cond (lt (fin s m e) minus87) zero+ (exp_fixed (whole_of M (fin s m e)))
