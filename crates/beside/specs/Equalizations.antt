-- What a call of `fde` gives: the number by part 10, and either est.rs's values or the written list as it was.
use Rattle.std.specs.Prelude.{ℕ, ◌*◌, ◌≡◌, Result, Ok, Bool, not, cond, ◌||◌, List, ltb, eqb, length, Float}
use Rattle.ieee.specs.Order.{is_finite}
use Rattle.spread.specs.Spreader.{twiddles_of}
use Rattle.equalize.specs.declared.filter.Equalized.{Equalized}
use Rattle.equalize.specs.Answer.{Answer}
use Rattle.equalize.specs.Fde.{fde_of}
use Rattle.scan.specs.Fine.{all, is_variance}
use Rattle.cause.specs.declared.Cause.{Cause}
use Rattle.cause.specs.Causes.{number_of}

-- y, h and z have not the m complex numbers that v has variances for, m being 0 or over 109
unfoldable pub bad_lengths : (y h m z : ℕ) → Bool
bad_lengths y h m z = eqb m 0 || (ltb 109 m || (not (eqb y (2 * m)) || (not (eqb h (2 * m)) || not (eqb z (2 * m)))))

-- a number read that is not finite, the gain too, or a variance below 0
unfoldable pub bad_numbers : (y h v : List Float) → (gain : Float) → Bool
bad_numbers y h v gain = not (all is_finite y) || (not (all is_finite h) || (not (all is_variance v) || not (is_finite gain)))

module _ (y h v : List Float) (gain : Float) where
  unfoldable pub refusal_of : (z : List Float) → ℕ
  refusal_of z = cond (bad_lengths (length y) (length h) (length v) (length z)) 5 (cond (bad_numbers y h v gain) 7 0)

  -- (mu, var) and z, with the spreader of as many carriers
  unfoldable pub equalized : Answer Equalized
  equalized = fde_of (length v) (twiddles_of (length v)) y h v gain

  pub record Equalizes (r : Result Equalized Cause) (z₁ : List Float) : Type 0 where
    pub result : r ≡ Ok equalized.result
    pub symbols : z₁ ≡ equalized.z

  -- z before and after
  pub record Equalizing (r : Result Equalized Cause) (z₀ z₁ : List Float) : Type 0 where
    pub number : number_of r ≡ refusal_of z₀
    pub accepted : refusal_of z₀ ≡ 0 → Equalizes r z₁
    pub refused : (refusal_of z₀ ≡ 0 → ⊥) → z₁ ≡ z₀
