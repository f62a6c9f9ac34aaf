-- A table scaled in place, point by point, has each of its points scaled once. Assumes nothing.
use Prim.Native.Nat.{ℕ, zero, suc, ◌+◌, ◌*◌, ◌≤◌, ◌<◌}
use mathlib.Core.Path.{◌≡◌, refl, sym, ap, ap₂, ◌∙◌}
use mathlib.Core.List.{List, ◌++◌}
use mathlib.Core.Logic.{⊎_elim}
use native.Mathlib.Nat.{eq-or-lt_of_le, le_of_suc-le-suc}
use native.Mathlib.Numerals.{add-one}
use native.Mathlib.Omega.{arith}
use lib.ListN.{length, set, get_or, drop, length-set}
use lib.Seq.{get_or-set_same, get_or-set_other}
use lib.Ieee.{Float, nan}
use Rattle.seq.specs.Loop.{for}
use Rattle.seq.specs.Loop.Laws.{for_none, for_next}
use Rattle.seq.specs.Tab.{tab}
use Rattle.seq.specs.Tab.Laws.{tab_none, tab_step, tab_end}
use Rattle.ieee.specs.Num.{◌⊠◌}
use Rattle.dsp.specs.declared.Complex.{Complex}
use Rattle.dsp.specs.Arithmetic.{complex, scaleᶜ}
use Rattle.points.specs.Table.{point_at, put_at}
use Rattle.points.specs.Power.{scale_turn, scaled_of}
use Rattle.points.specs.Laws.{ScaledLaws}

length_put : (l : List Float) (k : ℕ) (x : Complex) → length (put_at l k x) ≡ length l
length_put l k x = length-set (set l (2 * k) x.re) (2 * k + 1) x.im ∙ length-set l (2 * k) x.re

pub put_same : (l : List Float) (k : ℕ) (x : Complex) → 2 * k + 1 < length l → point_at (put_at l k x) k ≡ x
put_same l k x h =
    let m = set l (2 * k) x.re in
    let e : length m ≡ length l = length-set l (2 * k) x.re in
    ap₂ complex
    (get_or-set_other m (2 * k + 1) (2 * k) x.im nan (λ q. omega arith) ∙ get_or-set_same l (2 * k) x.re nan (omega arith))
    (get_or-set_same m (2 * k + 1) x.im nan (omega arith))

pub put_other : (l : List Float) (k j : ℕ) (x : Complex) → (j ≡ k → ⊥) → point_at (put_at l k x) j ≡ point_at l j
put_other l k j x n =
    let m = set l (2 * k) x.re in
    ap₂ complex
    (get_or-set_other m (2 * k + 1) (2 * j) x.im nan (λ q. omega arith) ∙ get_or-set_other l (2 * k) (2 * j) x.re nan (λ q. n (omega arith)))
    (get_or-set_other m (2 * k + 1) (2 * j + 1) x.im nan (λ q. n (omega arith)) ∙ get_or-set_other l (2 * k) (2 * j + 1) x.re nan (λ q. omega arith))

module _ (pts : List Float) (gain : Float) where
  after : ℕ → List Float
  after n = for 0 n (scale_turn gain) pts

  turned : (n : ℕ) → after (suc n) ≡ put_at (after n) n (scaleᶜ (point_at (after n) n) gain)
  unfolding after scale_turn
  turned n = rw (← add-one n) (for_next (scale_turn gain) 0 n pts (omega arith))

  kept : (n : ℕ) → length (after n) ≡ length pts
  unfolding after
  kept zero = ap length (sym (for_none (scale_turn gain) 0 pts))
  kept (suc n) = ap length (turned n) ∙ length_put (after n) n (scaleᶜ (point_at (after n) n) gain) ∙ kept n

  ahead : (n k : ℕ) → n ≤ k → point_at (after n) k ≡ point_at pts k
  unfolding after
  ahead zero k h = ap (λ (l : List Float). point_at l k) (sym (for_none (scale_turn gain) 0 pts))
  ahead (suc n) k h =
      ap (λ (l : List Float). point_at l k) (turned n)
      ∙ put_other (after n) n k (scaleᶜ (point_at (after n) n) gain) (λ q. omega arith)
      ∙ ahead n k (omega arith)

  -- the table's number i, scaled
  abbrev pub scaled_at : ℕ → Float
  scaled_at i = get_or pts i nan ⊠ gain

  written : (n : ℕ) → 2 * n ≤ length pts → after n ≡ tab (2 * n) scaled_at ++ drop (2 * n) pts
  unfolding after scaleᶜ
  written zero h = sym (for_none (scale_turn gain) 0 pts) ∙ tab_none scaled_at pts
  written (suc n) h =
      let two : 2 * suc n ≡ 2 * n + 1 + 1 = omega arith in
      turned n
      ∙ ap (λ (x : Complex). put_at (after n) n (scaleᶜ x gain)) (ahead n n (omega arith))
      ∙ rw two
      (tab_step scaled_at (2 * n + 1) pts (set (after n) (2 * n) (scaled_at (2 * n))) (scaled_at (2 * n + 1)) (omega arith)
      (tab_step scaled_at (2 * n) pts (after n) (scaled_at (2 * n)) (omega arith) (written n (omega arith)) refl) refl)

  -- a table each of whose numbers is scaled is the table scaled point by point
  pub scaled_whole : (k : ℕ) (l : List Float) → length pts ≡ 128 → k ≤ 128 → 128 ≤ k → l ≡ tab k scaled_at ++ drop k pts → l ≡ scaled_of pts gain
  unfolding scaled_of after
  scaled_whole k l w h h' e = tab_end scaled_at k 128 pts l h h' e ∙ sym (written 64 (omega arith))

  behind : (n k : ℕ) → length pts ≡ 128 → n ≤ 64 → k < n → point_at (after n) k ≡ scaleᶜ (point_at pts k) gain
  behind zero k w h l = absurd (omega arith)
  behind (suc n) k w h l =
      let x = scaleᶜ (point_at (after n) n) gain in
      let there : point_at (put_at (after n) n x) n ≡ x = put_same (after n) n x (omega (arith, kept n)) in
      ap (λ (l : List Float). point_at l k) (turned n)
      ∙ ⊎_elim (λ e. rw e (there ∙ ap (λ (p : Complex). scaleᶜ p gain) (ahead n n (omega arith))))
      (λ b. put_other (after n) n k x (λ q. omega arith) ∙ behind n k w (omega arith) b)
      (eq-or-lt_of_le (le_of_suc-le-suc l))

  pub scaled_laws : ScaledLaws pts gain
  unfolding scaled_of after
  scaled_laws = record { whole = kept 64; point = λ w k h. behind 64 k w (omega arith) h }
