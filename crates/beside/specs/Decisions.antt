-- What a call of `decide` gives: the number by part 10, and the point where none turned it away.
use Rattle.std.specs.Prelude.{ℕ, ◌≡◌, Result, Ok, Bool, not, cond, ◌&&◌, ◌||◌, ltb}
use Rattle.ieee.specs.Order.{is_finite}
use Rattle.dsp.specs.declared.Complex.{Complex}
use Rattle.points.specs.Constellation.{points_of}
use Rattle.demap.specs.Decide.{decide_of}
use Rattle.cause.specs.declared.Cause.{Cause}
use Rattle.cause.specs.Causes.{number_of}

unfoldable pub isFiniteᶜ : Complex → Bool
isFiniteᶜ x = is_finite x.re && is_finite x.im

module _ (code : ℕ) (y h : Complex) where
  -- a code above 3, then a number read that is not finite
  unfoldable pub refusal_of : ℕ
  refusal_of = cond (ltb 3 code) 2 (cond (not (isFiniteᶜ y) || not (isFiniteᶜ h)) 7 0)

  -- by the unit points of the code's constellation
  unfoldable pub point_for : Complex
  point_for = decide_of y h (points_of code).pts (points_of code).bps

  pub record Decides (r : Result Complex Cause) : Type 0 where
    pub number : number_of r ≡ refusal_of
    pub point : refusal_of ≡ 0 → r ≡ Ok point_for
