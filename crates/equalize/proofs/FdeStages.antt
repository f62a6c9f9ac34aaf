-- `fde` by the stages of the code: each one over what the stage before it left.
use Prim.Native.Nat.{ℕ, ◌*◌}
use mathlib.Core.Path.{◌≡◌, ap, ◌∙◌}
use mathlib.Core.List.{List, ◌++◌}
use lib.ListN.{drop}
use lib.Ieee.{Float}
use Rattle.spread.specs.Spreader.{inverse_of}
use Rattle.equalize.specs.declared.equalizer.FdeSums.{FdeSums}
use Rattle.equalize.specs.declared.filter.Equalized.{Equalized}
use Rattle.equalize.specs.Answer.{Equalizes}
use Rattle.equalize.specs.Fde.{carriers_of, result_of, fde_of}
use Rattle.equalize.proofs.Stages.{inverted}
use Rattle.equalize.proofs.FdeLaws.{length_carriers}

pub fde_answer : (m : ℕ) (tw y h v : List Float) (gain : Float) (s : FdeSums) (r : Equalized) (z₀ z₁ z₂ : List Float)
    → Equalizes m (carriers_of m y h v gain) s z₀ z₁ → z₂ ≡ inverse_of m tw z₁ ++ drop (2 * m) z₁ → r ≡ result_of m s → Equalizes m (fde_of m tw y h v gain) r z₀ z₂
unfolding fde_of
fde_answer m tw y h v gain s r z₀ z₁ z₂ e e₂ e₃ = record {
  result = e₃ ∙ ap (result_of m) e.result;
  symbols = inverted m tw (carriers_of m y h v gain).z z₀ z₁ z₂ (length_carriers m y h v gain) e.symbols e₂;
}
