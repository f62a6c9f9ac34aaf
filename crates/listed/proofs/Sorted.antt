-- Of pilots in order of symbol, the count below a symbol is where its pilots begin. Assumes nothing.
use Rattle.std.proofs.Common.{List, length, take, count_by, get_or, ap}
use Rattle.std.proofs.lemmas.List.Sums.{count_by_more_yes, count_by_more_no}
use Prim.Native.Nat.{ℕ, zero, suc, ◌+◌, ◌≤◌, ◌<◌}
use mathlib.Core.Bool.{Bool, true, false, cond}
use mathlib.Core.Path.{◌≡◌, refl, sym, ◌∙◌}
use native.Mathlib.Decide.{dec_lt}
use native.Mathlib.Omega.{arith}
use lib.Dec.{ltb}
use borrow.Author.Tests.{lt-ltb, le-ltb}
use lib.Seq.{take-length}
use Rattle.std.specs.Int.{from_bool}
use Rattle.seq.specs.Loop.Laws.{for_none, for_next}
use Rattle.listed.specs.Order.{tally, below}

pub bool_few : (b : Bool) → from_bool b ≤ 1
bool_few true = omega arith
bool_few false = omega arith

cases : {P : Type 0} (a b : ℕ) → (a < b → P) → (b ≤ a → P) → P
cases {P} a b f g = go (dec_lt a b)
  where
    go : Dec (a < b) → P
    go (yes d) = f d
    go (no d) = g (omega arith)

module _ (symbol : ℕ → ℕ) (g : ℕ) where
  more : (n : ℕ) → below symbol (suc n) g ≡ cond (ltb (symbol n) g) (below symbol n g + 1) (below symbol n g)
  unfolding below tally
  more n = let s : suc n ≡ n + 1 = omega arith in rw s (for_next (tally symbol g) 0 n 0 (omega arith))

  pub none_yet : below symbol 0 g ≡ 0
  unfolding below
  none_yet = sym (for_none (tally symbol g) 0 0)

  -- one turn of a loop that counts them
  pub one_more : (n m : ℕ) → m ≡ below symbol n g → m + from_bool (ltb (symbol n) g) ≡ below symbol (n + 1) g
  one_more n m e = go (dec_lt (symbol n) g)
    where
      s : n + 1 ≡ suc n
      s = omega arith

      go : Dec (symbol n < g) → m + from_bool (ltb (symbol n) g) ≡ below symbol (n + 1) g
      go (yes d) = rw (s, more n, lt-ltb (symbol n) g d, e) refl
      go (no d) = let h : g ≤ symbol n = omega arith in let z : below symbol n g + 0 ≡ below symbol n g = omega arith in rw (s, more n, le-ltb (symbol n) g h, e) z

  counts : (n : ℕ) → symbol n < g → below symbol (suc n) g ≡ below symbol n g + 1
  counts n h = more n ∙ rw (lt-ltb (symbol n) g h) refl

  passes : (n : ℕ) → g ≤ symbol n → below symbol (suc n) g ≡ below symbol n g
  passes n h = more n ∙ rw (le-ltb (symbol n) g h) refl

  at_most : (n : ℕ) → below symbol n g ≤ n
  at_most zero = omega (arith, none_yet)
  at_most (suc n) = cases (symbol n) g (λ d. omega (arith, counts n d, at_most n)) (λ d. omega (arith, passes n d, at_most n))

  pub all_below : (n : ℕ) → ((i : ℕ) → i < n → symbol i < g) → below symbol n g ≡ n
  all_below zero h = none_yet
  all_below (suc n) h = counts n (h n (omega arith)) ∙ omega (arith, all_below n (λ i b. h i (omega arith)))

  grows : (n : ℕ) → below symbol n g ≤ below symbol (suc n) g
  grows n = cases (symbol n) g (λ d. omega (arith, counts n d)) (λ d. omega (arith, passes n d))

  -- those below g come first
  pub before_it : (n : ℕ) → ((i j : ℕ) → i ≤ j → j < n → symbol i ≤ symbol j) → (i : ℕ) → i < n → symbol i < g → i < below symbol n g
  before_it zero s i h b = absurd (omega arith)
  before_it (suc n) s i h b =
      cases i n
      (λ d. omega (arith, before_it n (λ j k u v. s j k u (omega arith)) i d b, grows n))
      (λ d. omega (arith, all_below (suc n) (λ j u. omega (arith, s j i (omega arith) h))))

  pub after_it : (n : ℕ) → ((i j : ℕ) → i ≤ j → j < n → symbol i ≤ symbol j) → (i : ℕ) → i < n → g ≤ symbol i → below symbol n g ≤ i
  after_it zero s i h b = absurd (omega arith)
  after_it (suc n) s i h b =
      let k = passes n (omega (arith, s i n (omega arith) (omega arith))) in
      cases i n (λ d. omega (arith, k, after_it n (λ j k u v. s j k u (omega arith)) i d b)) (λ d. omega (arith, k, at_most n))

pub rise : (symbol : ℕ → ℕ) (a b n : ℕ) → a ≤ b → below symbol n a ≤ below symbol n b
rise symbol a b zero h = omega (arith, none_yet symbol a)
rise symbol a b (suc n) h =
    let r = rise symbol a b n h in
    cases (symbol n) a
    (λ d. omega (arith, counts symbol a n d, counts symbol b n (omega arith), r))
    (λ d. omega (arith, passes symbol a n d, grows symbol b n, r))

-- counted by a test of each
module _ (xs : List ℕ) (g : ℕ) where
  abbrev at : ℕ → ℕ
  at i = get_or xs i 0

  upto : (n : ℕ) → n ≤ length xs → count_by (λ s. ltb s g) (take n xs) ≡ below at n g
  upto zero h = sym (none_yet at g)
  upto (suc n) h =
      let e : suc n ≡ n + 1 = omega arith in
      let r = ap (λ (m : ℕ). m + 1) (upto n (omega arith)) in
      rw e
      (cases (at n) g
      (λ d. count_by_more_yes (λ s. ltb s g) xs n 0 (omega arith) (lt-ltb (at n) g d) ∙ r ∙ sym (rw e at (counts at g n d)))
      (λ d. count_by_more_no (λ s. ltb s g) xs n 0 (omega arith) (le-ltb (at n) g d) ∙ upto n (omega arith) ∙ sym (rw e at (passes at g n d))))

  pub tallied : count_by (λ s. ltb s g) xs ≡ below at (length xs) g
  tallied = rw (take-length xs) at (upto (length xs) (omega arith))
