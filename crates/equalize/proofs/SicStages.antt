-- `sic` by the stages of the code: each one over what the stage before it left.
use Prim.Native.Nat.{ℕ, ◌-◌, ◌*◌, ◌≤◌}
use mathlib.Core.Path.{◌≡◌, refl, ap, ◌∙◌}
use mathlib.Core.List.{List, ◌++◌}
use native.Mathlib.Omega.{arith}
use lib.ListN.{length, drop, replicate}
use Rattle.std.proofs.Common.{take, length-take-le}
use lib.Ieee.{Float}
use Rattle.ieee.specs.Num.{zero32}
use Rattle.spread.specs.Spreader.{forward_of, inverse_of}
use Rattle.spread.proofs.Spreading.{copied, length_forward, length_inverse, zeros_left}
use Rattle.equalize.specs.declared.canceller.SicSums.{SicSums}
use Rattle.equalize.specs.declared.filter.Equalized.{Equalized}
use Rattle.equalize.specs.Answer.{Equalizes}
use Rattle.equalize.specs.Sic.{spread_of, carriers_of, result_of, restored, sic_of}
use Rattle.equalize.proofs.Stages.{at_front, then, forward_reads, inverted}
use Rattle.equalize.proofs.SicLaws.{length_carriers, carriers_read, restored_reads}

pub spread_answer : (m : ℕ) (tw xm x₁ x₂ : List Float) → m ≤ 109 → 2 * m ≤ length xm → x₁ ≡ take (2 * m) xm ++ drop (2 * m) (replicate 218 zero32)
    → x₂ ≡ forward_of m tw x₁ ++ drop (2 * m) x₁ → x₂ ≡ spread_of m tw xm
unfolding spread_of
spread_answer m tw xm x₁ x₂ h long e₁ e₂ =
    then (forward_of m tw) m (take (2 * m) xm) (forward_of m tw xm) (replicate 218 zero32) x₁ x₂
    (λ l. forward_reads m tw (take (2 * m) xm ++ l) xm (λ j. copied m xm l j long))
    (length-take-le (2 * m) xm long)
    e₁
    e₂
    ∙ ap (λ (l : List Float). forward_of m tw xm ++ l) (zeros_left (2 * m) (omega arith))

-- what follows the spread numbers is not read
pub spread_carriers : (m : ℕ) (tw y h v : List Float) (gain : Float) (xm : List Float) (vx : Float)
    → carriers_of m y h v gain (spread_of m tw xm) vx ≡ carriers_of m y h v gain (forward_of m tw xm) vx
unfolding spread_of
spread_carriers m tw y h v gain xm vx =
    carriers_read m gain vx y y h h v v _ (forward_of m tw xm) (λ j b. refl) (λ j b. refl) (λ j b. refl)
    (at_front m (forward_of m tw xm) (replicate (218 - 2 * m) zero32) (length_forward m tw xm))

pub sic_answer : (m : ℕ) (tw y h v : List Float) (gain : Float) (xm : List Float) (vx : Float) (xs : List Float) (s : SicSums) (r : Equalized) (z₀ z₁ z₂ z₃ : List Float)
    → xs ≡ spread_of m tw xm → Equalizes m (carriers_of m y h v gain xs vx) s z₀ z₁ → z₂ ≡ inverse_of m tw z₁ ++ drop (2 * m) z₁ → r ≡ result_of m vx s
    → z₃ ≡ restored m r.mu xm z₂ ++ drop (2 * m) z₂ → Equalizes m (sic_of m tw y h v gain xm vx) r z₀ z₃
unfolding sic_of
sic_answer m tw y h v gain xm vx xs s r z₀ z₁ z₂ z₃ e₀ e₁ e₂ e₃ e₄ =
    let a = carriers_of m y h v gain (forward_of m tw xm) vx in
    let l = length_carriers m y h v gain (forward_of m tw xm) vx in
    let e = rw (e₀, spread_carriers m tw y h v gain xm vx) at e₁ in
    let er : r ≡ result_of m vx a.result = e₃ ∙ ap (result_of m vx) e.result in
    record {
      result = er;
      symbols = rw er at
          (then (restored m r.mu xm) m (inverse_of m tw a.z) (restored m r.mu xm (inverse_of m tw a.z)) z₀ z₂ z₃
          (λ t. restored_reads m r.mu xm xm _ _ (λ j b. refl) (at_front m (inverse_of m tw a.z) t (length_inverse m tw a.z)))
          (length_inverse m tw a.z)
          (inverted m tw a.z z₀ z₁ z₂ l e.symbols e₂)
          e₄);
    }
