-- A symbol is read from its own stretch: what stands past the numbers read changes nothing. Assumes nothing.
use Prim.Native.Nat.{ℕ, ◌+◌, ◌-◌, ◌*◌, ◌<◌, ◌≤◌}
use mathlib.Core.Path.{◌≡◌, refl, ap, ap₂, ◌∙◌}
use mathlib.Core.List.{List, ◌++◌, append-nil}
use native.Mathlib.Nat.{mul_assoc}
use native.Mathlib.Omega.{arith}
use lib.ListN.{length, get_or, take, drop, drop_of_length-le, get_or-append}
use lib.Seq.{drop_at, get_or-take, get_or-drop}
use lib.Ieee.{Float, nan}
use Rattle.seq.specs.Loop.Laws.{for_same}
use Rattle.seq.specs.Cat.{cat}
use Rattle.seq.specs.Cat.Laws.{cat-same, length_cat, stretch}
use Rattle.ieee.specs.Num.{◌⊞◌}
use Rattle.dsp.specs.declared.Complex.{Complex}
use Rattle.dsp.specs.Arithmetic.{complex, scaleᶜ}
use Rattle.points.specs.Power.{minus_zero}
use Rattle.spread.specs.Flat.{flat}
use Rattle.spread.specs.Spreader.{twiddles_of, forward_of}
use Rattle.spread.proofs.Pairs.{length_pairs}
use Rattle.spread.proofs.Spreading.{length_forward, forward_front}
use Rattle.expect.specs.declared.Shape.{Shape}
use Rattle.expect.specs.Expect.{cell_numbers, mean_at, soft_cells, scaled_cells, row_means, sum_turn, row_sum, spread_means, spread_variance, spread_row, respread, expected_of}
use Rattle.expect.proofs.Laws.{length_row, soft_own}

module _ (dc : ℕ) (soft : List Float) (t : ℕ) where
  pub length_means : length (row_means dc soft t) ≡ 2 * dc
  unfolding row_means
  length_means = length_pairs (λ j. mean_at soft (t * dc + j)) dc

  pub length_spread_means : length (spread_means dc soft t) ≡ 2 * dc
  unfolding spread_means
  length_spread_means = length_forward dc (twiddles_of dc) (row_means dc soft t)

  -- the means followed by anything, spread in place
  pub spread_front : (l : List Float)
      → forward_of dc (twiddles_of dc) (row_means dc soft t ++ l) ++ drop (2 * dc) (row_means dc soft t ++ l) ≡ spread_means dc soft t ++ l
  unfolding spread_means
  spread_front l = ap₂ ◌++◌ (forward_front dc (twiddles_of dc) (row_means dc soft t) l length_means) (drop_at (row_means dc soft t) l (2 * dc) length_means)

-- the means row followed by anything
pub scaled_front : (dc : ℕ) (gain mv : Float) (row l : List Float) → length row ≡ 2 * dc → scaled_cells dc gain mv (row ++ l) ≡ scaled_cells dc gain mv row
unfolding scaled_cells
scaled_front dc gain mv row l h =
    cat-same dc _ _
    (λ j u.
    ap (λ (x : Complex). cell_numbers (scaleᶜ x gain) mv)
    (ap₂ complex (get_or-append row l nan (2 * j) (omega arith)) (get_or-append row l nan (2 * j + 1) (omega arith))))

-- a symbol from the means that were spread followed by anything, in a list of its length
pub row_is : (dc : ℕ) (soft : List Float) (t : ℕ) (gain : Float) (l out : List Float) → length out ≡ dc * 3
    → scaled_cells dc gain (spread_variance dc soft t gain) (spread_means dc soft t ++ l) ++ drop (dc * 3) out ≡ spread_row dc soft t gain
unfolding spread_row
row_is dc soft t gain l out h =
    rw (scaled_front dc gain (spread_variance dc soft t gain) (spread_means dc soft t) l (length_spread_means dc soft t), drop_of_length-le out {i = dc * 3} (omega arith)) (append-nil _)

-- the soft points followed by anything
module _ (dc : ℕ) (soft l : List Float) where
  module _ (t : ℕ) (h : (t * dc + dc) * 3 ≤ length soft) where
    means_front : row_means dc (soft ++ l) t ≡ row_means dc soft t
    unfolding row_means
    means_front =
        cat-same dc _ _
        (λ j u.
        ap flat
        (ap₂ complex (get_or-append soft l nan (3 * (t * dc + j)) (omega arith)) (get_or-append soft l nan (3 * (t * dc + j) + 1) (omega arith))))

    sum_front : row_sum dc (soft ++ l) t ≡ row_sum dc soft t
    unfolding row_sum sum_turn
    sum_front =
        for_same (sum_turn dc (soft ++ l) t) (sum_turn dc soft t) 0 dc minus_zero
        (λ j sum u v. ap (λ (x : Float). sum ⊞ x) (get_or-append soft l nan (3 * (t * dc + j) + 2) (omega arith)))

    row_front : (gain : Float) → spread_row dc (soft ++ l) t gain ≡ spread_row dc soft t gain
    unfolding spread_row spread_means spread_variance
    row_front gain = rw (means_front, sum_front)

  pub respread_front : (gain : Float) (nsym : ℕ) → nsym * (dc * 3) ≤ length soft → respread dc gain nsym (soft ++ l) ≡ respread dc gain nsym soft
  unfolding respread
  respread_front gain nsym h = cat-same nsym _ _ (λ t u. row_front t (omega (arith, stretch t nsym (dc * 3) (length soft) u h, mul_assoc t dc 3)) gain)

-- ---- a symbol by its own stretch

module _ (dc : ℕ) (soft : List Float) (t : ℕ) where
  abbrev own : List Float
  own = take (dc * 3) (drop (t * (dc * 3)) soft)

  number : (i k : ℕ) → k < dc * 3 → t * (dc * 3) + k ≡ i → get_or own k nan ≡ get_or soft i nan
  number i k h q = get_or-take (dc * 3) (drop (t * (dc * 3)) soft) k nan h ∙ (get_or-drop (t * (dc * 3)) soft k nan ∙ ap (λ (x : ℕ). get_or soft x nan) q)

  own_means : row_means dc own 0 ≡ row_means dc soft t
  unfolding row_means
  own_means =
      cat-same dc _ _
      (λ j u. ap flat (ap₂ complex (number (3 * (t * dc + j)) (3 * (0 * dc + j)) (omega arith) (omega (arith, mul_assoc t dc 3))) (number (3 * (t * dc + j) + 1) (3 * (0 * dc + j) + 1) (omega arith) (omega (arith, mul_assoc t dc 3)))))

  own_sum : row_sum dc own 0 ≡ row_sum dc soft t
  unfolding row_sum sum_turn
  own_sum =
      for_same (sum_turn dc own 0) (sum_turn dc soft t) 0 dc minus_zero
      (λ j sum u v. ap (λ (x : Float). sum ⊞ x) (number (3 * (t * dc + j) + 2) (3 * (0 * dc + j) + 2) (omega arith) (omega (arith, mul_assoc t dc 3))))

  pub own_row : (gain : Float) → spread_row dc own 0 gain ≡ spread_row dc soft t gain
  unfolding spread_row spread_means spread_variance
  own_row gain = rw (own_means, own_sum)

-- the stretch that is lent, with the symbols before it spread
pub lent_row : (dc : ℕ) (gain : Float) (t : ℕ) (l₀ l row : List Float) → l ≡ cat t (λ i. spread_row dc l₀ i gain) ++ drop (t * (dc * 3)) l₀
    → row ≡ spread_row dc (take (t * (dc * 3) + dc * 3 - t * (dc * 3)) (drop (t * (dc * 3)) l)) 0 gain → row ≡ spread_row dc l₀ t gain
lent_row dc gain t l₀ l row e e' =
    let n : t * (dc * 3) + dc * 3 - t * (dc * 3) ≡ dc * 3 = omega arith in
    let d : drop (t * (dc * 3)) l ≡ drop (t * (dc * 3)) l₀ = ap (drop (t * (dc * 3))) e ∙ drop_at (cat t (λ i. spread_row dc l₀ i gain)) (drop (t * (dc * 3)) l₀) (t * (dc * 3)) (length_cat (dc * 3) (λ i. spread_row dc l₀ i gain) (length_row dc l₀ gain) t) in
    e' ∙ rw (n, d) (own_row dc l₀ t gain)
