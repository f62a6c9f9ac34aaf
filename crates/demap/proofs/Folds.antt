-- A turn of the loop over half of the labels, and the three loops of which it is one. Assumes nothing.
use Prim.Native.Nat.{ℕ}
use mathlib.Core.Path.{◌≡◌, refl, sym, ◌∙◌}
use mathlib.Core.List.{List}
use lib.Ieee.{Float}
use Rattle.std.proofs.lemmas.Bool.{eq-eqb, ne_eqb}
use Rattle.ieee.specs.Num.{◌⊞◌, ◌⊟◌, zero32}
use Rattle.ieee.specs.Order.{max_of}
use Rattle.elementary.specs.Exp.{exp_at}
use Rattle.soft.specs.Soft.{bit_of}
use Rattle.demap.specs.Demap.{at, lowest, top_turn, top_of, sum_turn, sum_of}
use Rattle.demap.specs.Shared.{pick_turn, picked_of, half_turn, half_of}

module _ (f : Float → Float → Float) (d : List Float) (bps b bit k : ℕ) where
  -- the label has the bit
  pub taken : (own : ℕ) (s t : Float) → own ≡ bit_of bps k b → own ≡ bit → t ≡ f s (at d k) → t ≡ half_turn f d bps b bit k s
  unfolding half_turn
  taken own s t e h e' = rw (eq-eqb (bit_of bps k b) bit (sym e ∙ h)) e'

  -- it has the other
  pub passed : (own : ℕ) (s t : Float) → own ≡ bit_of bps k b → (own ≡ bit → ⊥) → t ≡ s → t ≡ half_turn f d bps b bit k s
  unfolding half_turn
  passed own s t e h e' = rw (ne_eqb (bit_of bps k b) bit (λ q. h (e ∙ q))) e'

module _ (d : List Float) (bps b bit : ℕ) where
  pub top_half : half_of max_of d bps b bit lowest ≡ top_of d bps b bit
  unfolding half_of half_turn top_of top_turn
  top_half = refl

  pub sum_half : (m : Float) → m ≡ top_of d bps b bit → half_of (λ s x. s ⊞ exp_at (x ⊟ m)) d bps b bit zero32 ≡ sum_of d bps b bit
  unfolding half_of half_turn sum_of sum_turn
  sum_half m e = rw e refl

  pub picked_half : half_of (λ s x. s ⊞ x) d bps b bit zero32 ≡ picked_of d bps b bit
  unfolding half_of half_turn picked_of pick_turn
  picked_half = refl
