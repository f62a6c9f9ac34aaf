-- Odd(Z), ln(v) for v from 1e-30 on, and ln_1p(t) for t in 0..1: document 01's recipes, letter by letter.
use Rattle.std.specs.Prelude.{ℕ, ◌+◌, ◌-◌, ◌*◌, ◌/◌, ◌^◌, false, Float}
use Rattle.std.specs.Float.{nan, inf, fin, binary32}
use Rattle.std.specs.Float.Ieee.{up, down, size, round}
use Rattle.elementary.specs.FixedPoint.{M, L, whole_of, over, turns, down_to}

-- S = M // (2j + 1) + (W S // M)
abbrev pub odd_turn : ℕ → ℕ → ℕ → ℕ
odd_turn W j S = M / (2 * j + 1) + W * S / M

-- S = 0, then for j = 10 down to 0 that
unfoldable pub odd_sum : ℕ → ℕ
unfolding turns
odd_sum W = down_to 10 0 (odd_turn W) 0

-- Odd(Z): W = Z² // M; A = 2 (Z S // M)
unfoldable pub odd_of : ℕ → ℕ
unfolding odd_sum
odd_of Z =
    let W = Z * Z / M in
    let S = odd_sum W in
    2 * (Z * S / M)

-- Z = (m - 2^23) M // (m + 2^23); the f32 nearest (e L + A) / M. Here x is e + 127, so that no number is below 0.
unfoldable pub ln_parts : ℕ → ℕ → Float
unfolding over odd_of
ln_parts m x =
    let Z = (m - 2 ^ 23) * M / (m + 2 ^ 23) in
    let A = odd_of Z in
    over binary32 (x * L + A) (127 * L) M

-- v = m * 2 ^ (e - 23) with 2^23 ≤ m < 2^24. As a multiple n of the least f32, 2^-149, v has the 24 leading digits m
-- and k digits after them:
-- v = m * 2 ^ (k - 149), so e = k - 126.
unfoldable pub ln_at : Float → Float
unfolding ln_parts
ln_at nan = nan
ln_at (inf s) = inf s
ln_at (fin s m e) =
    let n = m * up e * 2 ^ 149 / down e in
    let k = size n - 24 in
    ln_parts (n / 2 ^ k) (k + 1)

-- T = t M rounded down, Z = 2 (T * 2^31 // (2^33 + T)); the f32 nearest A / M
unfoldable pub ln1p_at : Float → Float
unfolding odd_of whole_of
ln1p_at nan = nan
ln1p_at (inf s) = inf s
ln1p_at (fin s m e) =
    let T = whole_of M (fin s m e) in
    let Z = 2 * (T * 2 ^ 31 / (2 ^ 33 + T)) in
    let A = odd_of Z in
    round binary32 false A M
