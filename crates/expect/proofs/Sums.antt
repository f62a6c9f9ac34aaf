-- What an iterator sums is what the loop over its numbers adds up. Assumes nothing.
use Prim.Native.Nat.{ℕ, zero, suc, ◌+◌, ◌*◌}
use mathlib.Core.Path.{◌≡◌, refl, sym, subst}
use mathlib.Core.List.{List}
use native.Mathlib.Omega.{arith}
use lib.Ieee.{Float}
use Rattle.std.specs.Prelude.{map}
use Rattle.std.specs.List.{fold, range_with_len}
use Rattle.std.proofs.lemmas.List.FromFn.{map-range_with_len_more}
use Rattle.std.proofs.lemmas.List.Sums.{fold-append}
use Rattle.seq.specs.Loop.{for}
use Rattle.seq.specs.Loop.Laws.{for_none, for_next}
use Rattle.ieee.specs.Num.{◌⊞◌}
use Rattle.points.specs.Power.{minus_zero}
use Rattle.expect.specs.Expect.{var_at, sum_turn, row_sum}

pub sum_is : (f : ℕ → Float) (turn : ℕ → Float → Float) → ((i : ℕ) (s : Float) → turn i s ≡ s ⊞ f i)
    → (n : ℕ) → fold (λ s x. s ⊞ x) minus_zero (map f (range_with_len 0 n)) ≡ for 0 n turn minus_zero
sum_is f turn each zero = for_none turn 0 minus_zero
sum_is f turn each (suc n) =
    let e : n + 1 ≡ suc n = omega arith in
    let P : ℕ → Type 0 = λ m. fold (λ s x. s ⊞ x) minus_zero (map f (range_with_len 0 m)) ≡ for 0 m turn minus_zero in
    let next : P (n + 1) = rw (map-range_with_len_more f 0 n n (omega arith), fold-append, sum_is f turn each n, for_next turn 0 n minus_zero (omega arith)) (sym (each n _)) in
    subst P e next

pub row_sum_is : (dc : ℕ) (soft : List Float) (t : ℕ) → fold (λ s x. s ⊞ x) minus_zero (map (λ j. var_at soft (t * dc + j)) (range_with_len 0 dc)) ≡ row_sum dc soft t
unfolding row_sum sum_turn
row_sum_is dc soft t = sum_is (λ j. var_at soft (t * dc + j)) (sum_turn dc soft t) (λ i s. refl) dc
