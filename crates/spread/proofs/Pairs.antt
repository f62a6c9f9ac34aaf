-- Complex numbers joined in a flat list: how a loop writes them, how long the list is, and number k of it.
use Rattle.std.specs.Prelude.{◌≡◌, ℕ, ◌+◌, ◌*◌, ◌<◌, ◌≤◌, List, ◌++◌, length, get_or, drop, set}
use mathlib.Core.Path.{refl, ap₂, ◌∙◌}
use mathlib.Core.List.{append_assoc}
use native.Mathlib.Numerals.{add-one}
use native.Mathlib.Omega.{arith}
use lib.ListN.{length-append, length-drop, get_or-append}
use lib.Seq.{sets-eq, drop-drop}
use lib.Ieee.{Float, nan}
use Rattle.seq.specs.Cat.{cat}
use Rattle.seq.specs.Cat.Laws.{cat-none, cat_more, length_cat, get_d_cat}
use Rattle.dsp.specs.declared.Complex.{Complex}
use Rattle.dsp.specs.Arithmetic.{complex}
use Rattle.dsp.specs.Flat.{complex_at, flat}

-- z 0, .., z (k - 1)
abbrev pub pairs : (ℕ → Complex) → ℕ → List Float
pairs z k = cat k (λ i. flat (z i))

module _ (z : ℕ → Complex) where
  pub pairs_none : (l : List Float) → l ≡ pairs z 0 ++ drop (2 * 0) l
  pairs_none l = cat-none 2 (λ i. flat (z i)) l

  -- a loop has written those below k, and puts w, the next one
  pub pairs_step : (k : ℕ) (l₀ l : List Float) (w : Complex) → 2 * k + 2 ≤ length l → l ≡ pairs z k ++ drop (2 * k) l₀ → w ≡ z k
      → set (set l (2 * k) w.re) (2 * k + 1) w.im ≡ pairs z (k + 1) ++ drop (2 * (k + 1)) l₀
  pairs_step k l₀ l w h e e' =
      let a : k * 2 ≡ 2 * k = omega arith in
      let b : (k + 1) * 2 ≡ 2 * (k + 1) = omega arith in
      rw (add-one (2 * k), sets-eq (flat w) l (2 * k) h, append_assoc, ← drop-drop 2 (2 * k) l, e')
      (rw (a, b) at (cat_more 2 (λ i. flat (z i)) (λ j. refl) k l₀ l (rw (← a) at e)))

  pub pairs_end : (k n : ℕ) (l₀ l : List Float) → k ≤ n → n ≤ k → l ≡ pairs z k ++ drop (2 * k) l₀ → l ≡ pairs z n ++ drop (2 * n) l₀
  pairs_end k n l₀ l h h' e = let q : k ≡ n = omega arith in rw q at e

  pub length_pairs : (k : ℕ) → length (pairs z k) ≡ 2 * k
  length_pairs k = length_cat 2 (λ i. flat (z i)) (λ j. refl) k ∙ omega arith
