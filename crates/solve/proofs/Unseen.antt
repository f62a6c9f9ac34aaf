-- What is stored in a column's rows is not seen by the rows below them, so that several rows may be taken together. Assumes nothing.
use Rattle.std.specs.Prelude.{◌≡◌, ℕ, ◌+◌, ◌-◌, ◌*◌, ◌<◌, ◌≤◌, List, Float}
use Rattle.std.specs.Float.{nan}
use Rattle.std.proofs.Common.{refl, ap, ◌∙◌, arith}
use lib.Seq.{get_or-set_other}
use Rattle.seq.specs.Loop.{for}
use Rattle.seq.specs.Loop.Laws.{for_same, for_all}
use Rattle.solve.specs.Solve.{at2, put2, minus_rows, reduced, below}

module _ (j : ℕ) (h : j < 40) where
  -- row i after a store in row g above it
  unseen : (a : List Float) (g i : ℕ) (x : Float) → g < i → reduced (put2 a g j x) i j ≡ reduced a i j
  unfolding reduced
  unseen a g i x u =
      for_same (minus_rows (put2 a g j x) i j) (minus_rows a i j) 0 j (at2 (put2 a g j x) i j) same
      ∙ ap (for 0 j (minus_rows a i j)) (get_or-set_other a (g * 40 + j) (i * 40 + j) x nan (omega arith))
    where
      same : (p : ℕ) (t : Float) → 0 ≤ p → p < 0 + (j - 0) → minus_rows (put2 a g j x) i j p t ≡ minus_rows a i j p t
      same p t _ w =
          rw (get_or-set_other a (g * 40 + j) (i * 40 + p) x nan (omega arith), get_or-set_other a (g * 40 + j) (j * 40 + p) x nan (omega arith))

  -- row x after the rows above it from i on
  pub unseen_rows : (a : List Float) (i n x : ℕ) (d : Float) → i + n ≤ x → reduced (for i (i + n) (below j d) a) x j ≡ reduced a x j
  unseen_rows a i n x d u =
      for_all (λ t. reduced t x j ≡ reduced a x j) (below j d) i (i + n) a (λ g t _ w e. unseen t g x _ (omega arith) ∙ e) refl
