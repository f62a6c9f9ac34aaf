-- A row of parts of one length w, each written into its own stretch of the list lent. Assumes nothing.
use Prim.Native.Nat.{ℕ, ◌+◌, ◌-◌, ◌*◌, ◌≤◌, ◌<◌}
use mathlib.Core.Path.{◌≡◌, ap, ap₂, ◌∙◌}
use mathlib.Core.List.{List, ◌++◌, append-nil}
use native.Mathlib.Nat.{mul_assoc, suc-mul}
use native.Mathlib.Numerals.{add-one}
use native.Mathlib.Omega.{arith}
use lib.ListN.{length, take, drop, get_or, drop_of_length-le}
use lib.Seq.{get_or-take, get_or-drop, drop_at}
use lib.Ieee.{Float, nan}
use Rattle.seq.specs.Cat.{cat}
use Rattle.seq.specs.Cat.Laws.{length_cat, cat_more, returned, cat_rows}
use Rattle.dsp.specs.Arithmetic.{complex}
use Rattle.load.specs.Find.{mean_at}

-- stretch k of width w as it is lent, and the list once it came back as xs
abbrev pub lent_of : ℕ → ℕ → List Float → List Float
lent_of w k l = take (k * w + w - k * w) (drop (k * w) l)

abbrev pub returned_to : ℕ → ℕ → List Float → List Float → List Float
returned_to w k l xs = take (k * w) l ++ (xs ++ drop (k * w + w - k * w) (drop (k * w) l))

-- all of a list was written
pub whole : (n : ℕ) (xs l : List Float) → length l ≡ n → xs ++ drop n l ≡ xs
whole n xs l e = ap (λ (r : List Float). xs ++ r) (drop_of_length-le l {i = n} (omega arith)) ∙ append-nil xs

module _ (w : ℕ) (f : ℕ → List Float) (h : (j : ℕ) → length (f j) ≡ w) where
  -- the stretch of part j came back as that part
  pub row_step : (j : ℕ) (l m ys : List Float) → m ≡ cat j f ++ drop (j * w) l → ys ≡ f j
      → returned_to w j m ys ≡ cat (j + 1) f ++ drop ((j + 1) * w) l
  row_step j l m ys e e' = returned (j * w) w m ys (f j) e' ∙ cat_more w f h j l m e

  -- all did
  pub row_end : (j n : ℕ) (l m : List Float) → j ≤ n → n ≤ j → length l ≡ n * w → m ≡ cat j f ++ drop (j * w) l → m ≡ cat n f
  row_end j n l m b b' e e' =
      let q : j ≡ n = omega arith in
      (rw q at e') ∙ whole (n * w) (cat n f) l e

  -- a stretch that no turn has written is as it was
  pub row_lent : (j i : ℕ) (d : Float) (l m : List Float) → i < w → m ≡ cat j f ++ drop (j * w) l → get_or (lent_of w j m) i d ≡ get_or l (j * w + i) d
  row_lent j i d l m b e =
      get_or-take (j * w + w - j * w) (drop (j * w) m) i d (omega arith)
      ∙ (rw (e, drop_at (cat j f) (drop (j * w) l) (j * w) (length_cat w f h j)) (get_or-drop (j * w) l i d))

-- of three numbers a cell: the mean that is lent
pub mean_lent : (f : ℕ → List Float) → ((j : ℕ) → length (f j) ≡ 3) → (j : ℕ) (l m : List Float) → m ≡ cat j f ++ drop (j * 3) l → mean_at (lent_of 3 j m) 0 ≡ mean_at l j
mean_lent f h j l m e =
    let a : j * 3 + 0 ≡ 3 * j = omega arith in
    let b : j * 3 + 1 ≡ 3 * j + 1 = omega arith in
    ap₂ complex (rw a at (row_lent 3 f h j 0 nan l m (omega arith) e)) (rw b at (row_lent 3 f h j 1 nan l m (omega arith) e))

-- ---- rows of dc parts, each row written into its own stretch

module _ (w dc : ℕ) (f : ℕ → List Float) (h : (c : ℕ) → length (f c) ≡ w) where
  abbrev row_of : ℕ → List Float
  row_of t = cat dc (λ j. f (t * dc + j))

  length_row : (t : ℕ) → length (row_of t) ≡ dc * w
  length_row t = length_cat w (λ j. f (t * dc + j)) (λ j. h (t * dc + j)) dc

  by_rows : (t : ℕ) (l m : List Float) → m ≡ cat (t * dc) f ++ drop (t * dc * w) l → m ≡ cat t row_of ++ drop (t * (dc * w)) l
  by_rows t l m e = rw (cat_rows f t dc, mul_assoc t dc w) at e

  pub symbol_step : (t : ℕ) (l m ys : List Float) → m ≡ cat (t * dc) f ++ drop (t * dc * w) l → ys ≡ row_of t
      → returned_to (dc * w) t m ys ≡ cat (t * dc + dc) f ++ drop ((t * dc + dc) * w) l
  symbol_step t l m ys e e' =
      let q : (t + 1) * dc ≡ t * dc + dc = rw add-one (suc-mul t dc) in
      rw (← cat_rows f (t + 1) dc, ← mul_assoc (t + 1) dc w, q) at (row_step (dc * w) row_of length_row t l m ys (by_rows t l m e) e')

  pub symbol_lent : (t i : ℕ) (d : Float) (l m : List Float) → i < dc * w → m ≡ cat (t * dc) f ++ drop (t * dc * w) l
      → get_or (lent_of (dc * w) t m) i d ≡ get_or l (t * (dc * w) + i) d
  symbol_lent t i d l m b e = row_lent (dc * w) row_of length_row t i d l m b (by_rows t l m e)
