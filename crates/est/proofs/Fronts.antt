-- The weights are the front of their array: what is made of the front is made of the array. Assumes nothing.
use Rattle.std.proofs.Common.{◌≡◌, ℕ, zero, suc, ◌+◌, ◌<◌, ◌≤◌, Bool, true, false, cond, List, ◌++◌, length, take, drop, refl, sym, ap, ◌∙◌, arith, take-append-drop, length-take-le}
use lib.Ieee.{Float, nan, lt}
use lib.ListN.{get_or-append, length-set}
use lib.Seq.{get_or-take, take_all}
use Rattle.std.specs.List.{fold}
use Rattle.std.proofs.lemmas.List.{set-append_left}
use Rattle.std.proofs.lemmas.List.Sums.{fold_more}
use Rattle.seq.specs.Loop.{for}
use Rattle.seq.specs.Loop.Laws.{for_none, for_next, for_same, for_both}
use Rattle.ieee.specs.Num.{◌⊕◌}
use Rattle.solve.specs.Solve.{at}
use Rattle.est.specs.Constants.{fifth, minus_zero}
use Rattle.est.specs.Weights.{plus, sum_of, over, divide_all, rescaled}

-- what an iterator sums is what the loop adds up
pub sum_is : (w : List Float) → fold (λ s x. s ⊕ x) minus_zero w ≡ sum_of (length w) w
unfolding sum_of plus
sum_is w = rw (take_all (length w) w (omega arith)) at (go (length w) (omega arith))
  where
    go : (n : ℕ) → n ≤ length w → fold (λ s x. s ⊕ x) minus_zero (take n w) ≡ for 0 n (plus w) minus_zero
    go zero h = for_none (plus w) 0 minus_zero
    go (suc n) h =
        let e : n + 1 ≡ suc n = omega arith in
        rw e at (fold_more (λ s x. s ⊕ x) minus_zero w n nan (omega arith) ∙ (ap (λ s. s ⊕ at w n) (go n (omega arith)) ∙ sym (for_next (plus w) 0 n minus_zero (omega arith))))

module _ (k : ℕ) (w : List Float) (h : k ≤ length w) where
  sum_front : sum_of k (take k w) ≡ sum_of k w
  unfolding sum_of plus
  sum_front = for_same (plus (take k w)) (plus w) 0 k minus_zero (λ i s u v. rw (get_or-take k w i nan (omega arith)) refl)

  divide_front : (s : Float) → divide_all k s (take k w) ++ drop k w ≡ divide_all k s w
  unfolding divide_all over
  divide_front s =
      let r = drop k w in
      (for_both (λ u v. (length u ≡ k) × (u ++ r ≡ v)) (over s) (over s) 0 k (take k w) w (λ i u v p q e. step i u v (omega arith) e) (length-take-le k w h, take-append-drop k w)).1
    where
      step : (i : ℕ) (u v : List Float) → i < k → (length u ≡ k) × (u ++ drop k w ≡ v) → (length (over s i u) ≡ k) × (over s i u ++ drop k w ≡ over s i v)
      step i u v q e =
          let b : i < length u = omega (arith, e.0) in
          (length-set u i _ ∙ e.0, rw (← e.1) (rw (set-append_left u (drop k w) i _ b, get_or-append u (drop k w) nan i b) refl))

  pub rescaled_front : rescaled (length (take k w)) (take k w) ++ drop k w ≡ rescaled k w
  unfolding rescaled
  rescaled_front = rw (length-take-le k w h, sum_front) (go (lt fifth (sum_of k w)))
    where
      go : (t : Bool) → cond t (divide_all k (sum_of k w) (take k w)) (take k w) ++ drop k w ≡ cond t (divide_all k (sum_of k w) w) w
      go true = divide_front (sum_of k w)
      go false = take-append-drop k w
