-- sin and cos by cases: the sign of p, the quarter it falls in, and the two sums there. Assumes nothing.
use Rattle.std.proofs.Common.{◌≡◌, ℕ, Bool, true, false, cond, sym, refl, ap}
use lib.Ieee.{Float, nan, inf, fin, binary64, lt, neg, is_nan, of_bits}
use Rattle.elementary.specs.Constants.{zero64}
use Rattle.elementary.specs.FixedPoint.{B, whole_of, over}
use Rattle.elementary.specs.Circular.{turned, wave_at, sin_at, cos_at}
use Rattle.elementary.specs.Domain.{InTurns}
use Rattle.elementary.proofs.Products.{Small}
use Rattle.ieee.proofs.Floats.{number, nan_answer}

-- ---- the quarters
pub turned_0 : (r s t : ℕ) → r ≡ 0 → over binary64 s 0 B ≡ turned r s t
unfolding turned
turned_0 r s t e = sym (ap (λ (x : ℕ). turned x s t) e)

pub turned_1 : (r s t : ℕ) → r ≡ 1 → over binary64 B t B ≡ turned r s t
unfolding turned
turned_1 r s t e = sym (ap (λ (x : ℕ). turned x s t) e)

pub turned_2 : (r s t : ℕ) → r ≡ 2 → over binary64 0 s B ≡ turned r s t
unfolding turned
turned_2 r s t e = sym (ap (λ (x : ℕ). turned x s t) e)

pub turned_3 : (r s t : ℕ) → r ≡ 3 → over binary64 t B B ≡ turned r s t
unfolding turned
turned_3 r s t e = sym (ap (λ (x : ℕ). turned x s t) e)

pub ruleset quarters = (turned_0, turned_1, turned_2, turned_3)

-- ---- the answers
pub sin_at_nan : sin_at nan ≡ nan
unfolding sin_at
sin_at_nan = refl

pub cos_at_nan : cos_at nan ≡ nan
unfolding cos_at
cos_at_nan = refl

pub sin_at_plus : (p : Float) → Small p → lt p zero64 ≡ false → wave_at 0 (whole_of B p) ≡ sin_at p
unfolding sin_at is_nan lt of_bits neg
sin_at_plus nan h n = absurd h.0
sin_at_plus (inf true) h n = absurd h.1.1
sin_at_plus (inf false) h n = absurd h.1.0
sin_at_plus (fin s m e) h n = sym (ap (λ (t : Bool). cond t (neg (wave_at 0 (whole_of B (fin s m e)))) (wave_at 0 (whole_of B (fin s m e)))) n)

pub sin_at_minus : (p : Float) → Small p → lt p zero64 ≡ true → neg (wave_at 0 (whole_of B p)) ≡ sin_at p
unfolding sin_at is_nan lt of_bits neg
sin_at_minus nan h n = absurd h.0
sin_at_minus (inf true) h n = absurd h.1.1
sin_at_minus (inf false) h n = absurd h.1.0
sin_at_minus (fin s m e) h n = sym (ap (λ (t : Bool). cond t (neg (wave_at 0 (whole_of B (fin s m e)))) (wave_at 0 (whole_of B (fin s m e)))) n)

pub cos_at_is : (p : Float) → Small p → wave_at 1 (whole_of B p) ≡ cos_at p
unfolding cos_at is_nan lt of_bits neg
cos_at_is nan h = absurd h.0
cos_at_is (inf true) h = absurd h.1.1
cos_at_is (inf false) h = absurd h.1.0
cos_at_is (fin s m e) h = refl

-- ---- the same by what the code tests
pub sin_nan : (p : Float) → true ≡ is_nan p → of_bits binary64 9221120237041090560 ≡ sin_at p
sin_nan p e = nan_answer binary64 sin_at p sin_at_nan e

pub cos_nan : (p : Float) → true ≡ is_nan p → of_bits binary64 9221120237041090560 ≡ cos_at p
cos_nan p e = nan_answer binary64 cos_at p cos_at_nan e

pub sin_plus : (p : Float) → false ≡ is_nan p → InTurns p → lt p zero64 ≡ false → wave_at 0 (whole_of B p) ≡ sin_at p
sin_plus p e h = sin_at_plus p (number p e, h)

pub sin_minus : (p : Float) → false ≡ is_nan p → InTurns p → lt p zero64 ≡ true → neg (wave_at 0 (whole_of B p)) ≡ sin_at p
sin_minus p e h = sin_at_minus p (number p e, h)

pub cos_number : (p : Float) → false ≡ is_nan p → InTurns p → wave_at 1 (whole_of B p) ≡ cos_at p
cos_number p e h = cos_at_is p (number p e, h)

pub ruleset sines = (sin_nan, sin_plus, sin_minus)

pub ruleset cosines = (cos_nan, cos_number)
