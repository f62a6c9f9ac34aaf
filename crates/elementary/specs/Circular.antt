-- sin and cos of p, for |p| up to 512: document 01's recipe, letter by letter.
use Rattle.std.specs.Prelude.{ℕ, zero, suc, ◌+◌, ◌-◌, ◌*◌, ◌/◌, ◌%◌, cond, Float}
use Rattle.std.specs.Float.{nan, inf, fin, binary64}
use Rattle.std.specs.Float.Ieee.{lt, neg}
use Rattle.elementary.specs.Constants.{zero64}
use Rattle.elementary.specs.FixedPoint.{B, whole_of, over, turns, down_to}

-- H, a quarter turn at the scale B
abbrev pub H : ℕ
H = 1686629713

-- s = B - ((F s // B) // (2j (2j + 1)))
abbrev pub sin_turn : ℕ → ℕ → ℕ → ℕ
sin_turn F j s = B - F * s / B / (2 * j * (2 * j + 1))

-- the same with (2j - 1) 2j
abbrev pub cos_turn : ℕ → ℕ → ℕ → ℕ
cos_turn F j c = B - F * c / B / ((2 * j - 1) * (2 * j))

-- s starts at B, for j = 8 down to 1
unfoldable pub sin_sum : ℕ → ℕ
unfolding turns
sin_sum F = down_to 8 1 (sin_turn F) B

-- c starts at B, for j = 8 down to 2; the turn j = 1 may end below 0 and is said apart
unfoldable pub cos_sum : ℕ → ℕ
unfolding turns
cos_sum F = down_to 8 2 (cos_turn F) B

-- F = f² // B; then s = f s // B
unfoldable pub sin_part : ℕ → ℕ
unfolding sin_sum
sin_part f =
    let F = f * f / B in
    let s = sin_sum F in
    f * s / B

-- what the turn j = 1 takes from B, which may be more than B: c ends as B - this
unfoldable pub cos_taken : ℕ → ℕ
unfolding cos_sum
cos_taken f =
    let F = f * f / B in
    let c = cos_sum F in
    F * c / B / 2

-- For q mod 4 = 0, 1, 2, 3 sin is s, c, -s, -c, over B. With t taken, c is B - t. A whole number has no -0.
unfoldable pub turned : ℕ → ℕ → ℕ → Float
unfolding over
turned zero s t = over binary64 s 0 B
turned (suc zero) s t = over binary64 B t B
turned (suc (suc zero)) s t = over binary64 0 s B
turned (suc (suc (suc q))) s t = over binary64 t B B

-- q = Q // H, f = Q - q H, and i quarters further on
unfoldable pub wave_at : ℕ → ℕ → Float
unfolding turned sin_part cos_taken
wave_at i Q =
    let q = Q / H in
    let f = Q - q * H in
    turned ((q + i) % 4) (sin_part f) (cos_taken f)

-- Q = |p| B rounded down; a negative p negates sin as a float, so that a sine of 0 becomes -0, and
-- p = -0 is not negative
unfoldable pub sin_at : Float → Float
unfolding wave_at whole_of
sin_at nan = nan
sin_at (inf s) = nan
sin_at (fin s m e) =
    let Q = whole_of B (fin s m e) in
    cond (lt (fin s m e) zero64) (neg (wave_at 0 Q)) (wave_at 0 Q)

-- cos is c, -s, -c, s: what sin is a quarter further on
unfoldable pub cos_at : Float → Float
unfolding wave_at whole_of
cos_at nan = nan
cos_at (inf s) = nan
cos_at (fin s m e) = wave_at 1 (whole_of B (fin s m e))
