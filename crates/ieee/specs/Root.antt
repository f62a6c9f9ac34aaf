-- The square root: `rooted f x` is what `ieee::sqrt` answers at either format. `Nearest` says that it is the rounding
-- of IEEE 754.
use Prim.Native.Nat.{ℕ, zero, suc, ◌+◌, ◌-◌, ◌*◌, ◌/◌, ◌^◌, ◌≤◌, ◌<◌, compare}
use Rattle.std.specs.Prelude.{false, cond, leb, Float}
use Rattle.std.specs.Float.{nan, inf, fin, Format}
use Rattle.std.specs.Float.Ieee.{prec, low, up, down, size, nearest, units}

-- the largest r with r * r ≤ n, for an n of at most d binary digits: twice the root of a quarter of n, or one more
unfoldable pub root_in : ℕ → ℕ → ℕ
root_in zero n = 0
root_in (suc d) n = let r = 2 * root_in d (n / 4) in cond (leb (suc r * suc r) n) (suc r) r

unfoldable pub isqrt : ℕ → ℕ
unfolding root_in size
isqrt n = root_in (size n) n

-- r is the whole number nearest to √S, for an S above 0: r (r - 1) < S ≤ r (r + 1), that is,
-- (r - 1/2) ^ 2 < S < (r + 1/2) ^ 2
abbrev pub Near : ℕ → ℕ → Type 0
Near S r = (r * r < S + r) × (S ≤ r * r + r)

-- The value of the format f that is nearest to √N times f's smallest value. It is `round` at an irrational number: of
-- the root's whole part the format keeps the prec leading digits and drops k, and q moves up by one where √N is above
-- the midpoint (q + 1/2) * 2 ^ k,
-- which is told by the squares, times 4.
unfoldable pub root_of : Format → ℕ → Float
unfolding isqrt units size
root_of f N =
    let w = isqrt N in
    let k = size w - prec f in
    let q = w / 2 ^ k in
    let h = (2 * q + 1) * 2 ^ k in
    units f false (nearest q (compare (4 * N) (h * h))) k

-- √x: a zero keeps its sign, and below zero there is none
unfoldable pub rooted : Format → Float → Float
unfolding root_of
rooted f nan = nan
rooted f (inf s) = cond s nan (inf false)
rooted f (fin s zero e) = fin s zero e
rooted f (fin s (suc m) e) = cond s nan (root_of f (suc m * up e * (2 ^ low f * 2 ^ low f) / down e))
