-- The laws of soft points. Assumes nothing.
use Prim.Native.Nat.{ℕ, ◌^◌, ◌<◌}
use mathlib.Core.Path.{◌≡◌, refl, sym, ap}
use mathlib.Core.Bool.{not}
use mathlib.Core.List.{List}
use lib.Dec.{T}
use lib.ListN.{get_or, take}
use lib.Seq.{get_or-take}
use lib.Ieee.{Float, nan, lt, le, is_nan, of_bits, round}
use lib.Ieee.Bits.{is_false}
use Rattle.seq.specs.Loop.Laws.{for_same}
use Rattle.ieee.specs.Num.{◌⊟◌, zero32}
use Rattle.ieee.specs.Order.{max_of}
use Rattle.ieee.proofs.Orders.{max_laws, not_lt_le}
use Rattle.elementary.specs.Exp.{exp_at}
use Rattle.dsp.specs.Arithmetic.{norm_sqr}
use Rattle.points.specs.Table.{point_at}
use Rattle.soft.specs.Soft.{log_probability, added, point_turn, nothing, moments_of, soft_of, soft_point}
use Rattle.soft.specs.Laws.{SoftLaws, Constants}
use Rattle.soft.proofs.Prefix.{own_logs, log_side}

module _ (llr llr' pts : List Float) (bps : ℕ) (same : (b : ℕ) → b < bps → get_or llr b nan ≡ get_or llr' b nan) where
  own : soft_point llr pts bps ≡ soft_point llr' pts bps
  unfolding soft_point moments_of point_turn
  own =
      ap soft_of
      (for_same (point_turn llr pts bps) (point_turn llr' pts bps) 0 (2 ^ bps) nothing
      (λ k s p q. ap (λ (lp : Float). added s (point_at pts k) (exp_at lp)) (own_logs llr llr' bps same k)))

zero_number : T (not (is_nan zero32))
unfolding is_nan of_bits
zero_number = tt

no_less : (x : Float) → T (le zero32 (max_of x zero32))
no_less x =
    let m = max_of x zero32 in
    not_lt_le m zero32 (max_laws.number x zero32 zero_number) zero_number (is_false (lt m zero32) (max_laws.second x zero32))

not_above : (llr : List Float) (bps k : ℕ) → T (not (lt zero32 (log_probability llr bps k)))
unfolding of_bits
not_above llr bps k = log_side llr bps k

variance : (llr pts : List Float) (bps : ℕ) → T (le zero32 (soft_point llr pts bps).var)
unfolding soft_point soft_of
variance llr pts bps = let s = moments_of llr pts bps in no_less (s.e2 ⊟ norm_sqr s.mu)

pub soft_laws : SoftLaws
soft_laws = record {
  own = own;
  part = λ llr pts bps. own llr (take bps llr) pts bps (λ b h. sym (get_or-take bps llr b nan h));
  not_above = not_above;
  variance = variance;
}

pub constants : Constants
unfolding of_bits round
constants = record { thirty = refl; tenth = refl }
