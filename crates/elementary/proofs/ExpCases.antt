-- exp by cases: a NaN, below -87, and the rest. Assumes nothing.
use Rattle.std.proofs.Common.{◌≡◌, ℕ, ◌-◌, ◌*◌, ◌/◌, ◌^◌, true, false, T, refl}
use lib.Ieee.{Float, nan, inf, fin, binary32, round, lt, is_nan}
use lib.Ieee.Scale.{finite}
use Rattle.elementary.specs.Constants.{zero+, minus87}
use Rattle.elementary.specs.Domain.{Number}
use Rattle.elementary.specs.FixedPoint.{M, L, whole_of}
use Rattle.elementary.specs.Exp.{exp_sum, exp_fixed, exp_at}

pub exp_nan : exp_at nan ≡ nan
unfolding exp_at
exp_nan = refl

pub exp_below : (x : Float) → Number x → lt x minus87 ≡ true → exp_at x ≡ zero+
unfolding exp_at is_nan
exp_below nan h e = absurd h
exp_below (inf s) h e = refl
exp_below (fin s m d) h e = rw e

pub exp_from : (x : Float) → T (finite x) → lt x minus87 ≡ false → exp_at x ≡ exp_fixed (whole_of M x)
unfolding exp_at
exp_from nan h e = absurd h
exp_from (inf s) h e = absurd h
exp_from (fin s m d) h e = rw e

pub exp_fixed_lem : (Q : ℕ) → exp_fixed Q ≡ round binary32 false (exp_sum (Q - Q / L * L)) (M * 2 ^ (Q / L))
unfolding exp_fixed
exp_fixed_lem Q = refl
