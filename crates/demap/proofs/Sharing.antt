-- The exponentials against the largest metric of all serve each half that has it. Assumes nothing.
use Prim.Native.Nat.{ℕ, zero, suc, ◌^◌, ◌<◌}
use mathlib.Core.Path.{◌≡◌, refl, ap, ◌∙◌}
use mathlib.Core.Bool.{not, cond}
use mathlib.Core.List.{List, ◌++◌}
use native.Mathlib.Omega.{arith}
use lib.Dec.{T, eqb}
use lib.ListN.{get_or-append}
use lib.Ieee.{Float, nan, lt}
use Rattle.seq.specs.Loop.Laws.{for_same}
use Rattle.seq.specs.Tab.{tab}
use Rattle.seq.specs.Tab.Laws.{length_tab, get_d_tab}
use Rattle.ieee.specs.Num.{◌⊞◌, zero32}
use Rattle.ieee.specs.Order.{max_of}
use Rattle.ieee.proofs.Orders.{max_laws}
use Rattle.soft.specs.Soft.{bit_of}
use Rattle.demap.specs.Demap.{at, top_of, sum_turn, sum_of}
use Rattle.demap.specs.Shared.{Over, Asked, Shared, pick_turn, picked_of}
use Rattle.ieee.proofs.Transitive.{not_below}
use Rattle.demap.proofs.Difference.{not_above}
use Rattle.demap.proofs.Top.{found}

-- what was written is there
pub tabbed_at : (f : ℕ → Float) (n : ℕ) (l : List Float) (k : ℕ) → k < n → at (tab n f ++ l) k ≡ f k
tabbed_at f n l k h = get_or-append (tab n f) l nan k (omega (arith, length_tab f n)) ∙ get_d_tab f n k nan h

module _ (d : List Float) (bps : ℕ) where
  pub largest_over : Over d bps (max_of (top_of d bps 0 0) (top_of d bps 0 1))
  largest_over k h = go (bit_of bps k 0) refl (omega arith)
    where
      x : Float
      x = top_of d bps 0 0

      y : Float
      y = top_of d bps 0 1

      go : (n : ℕ) → bit_of bps k 0 ≡ n → n < 2 → T (not (lt (max_of x y) (at d k)))
      go zero e l = not_below x (max_of x y) (at d k) (found d bps 0 0).number ((found d bps 0 0).most k h (rw e refl)) (max_laws.first x y)
      go (suc zero) e l = not_below y (max_of x y) (at d k) (found d bps 0 1).number ((found d bps 0 1).most k h (rw e refl)) (max_laws.second x y)
      go (suc (suc n)) e l = absurd (omega arith)

  pub over_asked : (m : Float) → Over d bps m → Asked d bps m
  over_asked m over k h = not_above (at d k) m (over k h)

  pub picked_is : (b bit : ℕ) (m : Float) (e : List Float) → Shared d bps m e → top_of d bps b bit ≡ m → picked_of e bps b bit ≡ sum_of d bps b bit
  unfolding picked_of pick_turn sum_of sum_turn
  picked_is b bit m e shared top =
      rw top
      (for_same (pick_turn e bps b bit) (sum_turn d bps b bit m) 0 (2 ^ bps) zero32
      (λ k s p q. ap (λ (x : Float). cond (eqb (bit_of bps k b) bit) (s ⊞ x) s) (shared k (omega arith))))
