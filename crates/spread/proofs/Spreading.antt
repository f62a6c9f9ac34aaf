-- What `transform` answers: where its index is, how long it is, number k of it, and that it reads m complex numbers.
use Rattle.std.specs.Prelude.{◌≡◌, ℕ, zero, suc, ◌+◌, ◌-◌, ◌*◌, ◌%◌, ◌<◌, ◌≤◌, Bool, true, false, List, ◌++◌, length, get_or, drop, replicate}
use mathlib.Core.Path.{sym, ap, ap₂, ◌∙◌}
use native.Mathlib.Nat.{mod-eq_of_lt, mod-eq-sub-mod, mod-add-mod, mod-lt, mul-suc, mul-zero}
use native.Mathlib.Decide.{dec_le}
use native.Mathlib.Omega.{arith}
use borrow.Author.Tests.{le-leb, lt-leb}
use lib.ListN.{length-append, length-replicate, replicate-append-replicate, get_or-append}
use lib.Seq.{drop_at}
use lib.Ieee.{Float, nan}
use Rattle.seq.specs.Loop.{for}
use Rattle.seq.specs.Loop.Laws.{for_none, for_next, for_same}
use Rattle.std.proofs.Common.{take, length-take-le, get_or-take}
use Rattle.seq.specs.Cat.Laws.{cat-same}
use Rattle.ieee.specs.Num.{zero32}
use Rattle.dsp.specs.declared.Complex.{Complex}
use Rattle.dsp.specs.Arithmetic.{complex, zeroᶜ, scaleᶜ, ◌+ᶜ◌, ◌*ᶜ◌}
use Rattle.dsp.specs.Flat.{complex_at, flat}
use Rattle.spread.specs.Spreader.{twiddle, twiddles_of, factor, next, unitary, Sum, start, turn, sum_of, output, transform, forward_of, inverse_of, Indexed}
use Rattle.spread.proofs.Pairs.{pairs, length_pairs, pairs_none, pairs_step, pairs_end}

-- ---- the index
pub next_wraps : (m k idx : ℕ) → m ≤ idx + k → idx + k - m ≡ next m k idx
unfolding next
next_wraps m k idx h = rw (le-leb m (idx + k) h)

pub next_goes : (m k idx : ℕ) → idx + k < m → idx + k ≡ next m k idx
unfolding next
next_goes m k idx h = rw (lt-leb m (idx + k) h)

pub next_is : (m k idx : ℕ) → idx < m → k < m → next m k idx ≡ (idx + k) % m
next_is m k idx h h' = go (dec_le m (idx + k))
  where
    go : Dec (m ≤ idx + k) → next m k idx ≡ (idx + k) % m
    go (yes u) = sym (next_wraps m k idx u) ∙ (sym (mod-eq_of_lt (omega arith)) ∙ sym (mod-eq-sub-mod u))
    go (no u) = let l : idx + k < m = omega arith in sym (next_goes m k idx l) ∙ sym (mod-eq_of_lt l)

pub next_lt : (m k idx : ℕ) → idx < m → k < m → next m k idx < m
next_lt m k idx h h' = rw (next_is m k idx h h') (mod-lt (idx + k) (omega arith))

-- a copy of the first m complex numbers has them
pub copied : (m : ℕ) (a l : List Float) (j : ℕ) → 2 * m ≤ length a → j < m → complex_at (take (2 * m) a ++ l) j ≡ complex_at a j
copied m a l j long h = ap₂ complex (part (2 * j) (omega arith)) (part (2 * j + 1) (omega arith))
  where
    part : (i : ℕ) → i < 2 * m → get_or (take (2 * m) a ++ l) i nan ≡ get_or a i nan
    part i h = get_or-append (take (2 * m) a) l nan i (omega (arith, length-take-le (2 * m) a long)) ∙ get_or-take (2 * m) a i nan h

module _ (m : ℕ) (tw : List Float) (inverse : Bool) (a : List Float) where
  abbrev after : ℕ → ℕ → Sum
  after k j = for 0 j (turn m tw inverse a k) start

  after_none : (k : ℕ) → after k 0 ≡ start
  after_none k = sym (for_none (turn m tw inverse a k) 0 start)

  after_next : (k j : ℕ) → after k (suc j) ≡ turn m tw inverse a k j (after k j)
  after_next k j = let e : suc j ≡ j + 1 = omega arith in rw e (for_next (turn m tw inverse a k) 0 j start (omega arith))

  index_is : (k j : ℕ) → k < m → (after k j).idx ≡ k * j % m
  unfolding turn
  index_is k zero h = ap (λ (s : Sum). s.idx) (after_none k) ∙ rw mul-zero (sym (mod-eq_of_lt (omega arith)))
  index_is k (suc j) h =
      ap (λ (s : Sum). s.idx) (after_next k j)
      ∙ (rw (index_is k j h) (next_is m k (k * j % m) (mod-lt (k * j) (omega arith)) h ∙ rw mul-suc (mod-add-mod (k * j) m k)))

  -- the sum with its index written out
  abbrev added : ℕ → ℕ → Complex → Complex
  added k j acc = acc +ᶜ complex_at a j *ᶜ factor inverse (complex_at tw (k * j % m))

  sum_is : (k j : ℕ) → k < m → (after k j).acc ≡ for 0 j (added k) zeroᶜ
  unfolding turn
  sum_is k zero h = ap (λ (s : Sum). s.acc) (after_none k) ∙ for_none (added k) 0 zeroᶜ
  sum_is k (suc j) h =
      let e : suc j ≡ j + 1 = omega arith in
      ap (λ (s : Sum). s.acc) (after_next k j) ∙ rw (e, for_next (added k) 0 j zeroᶜ (omega arith), ← sum_is k j h, index_is k j h)

  pub indexed : Indexed m tw inverse a
  unfolding sum_of
  indexed = record { index = index_is; sum = λ k h. sum_is k m h }

  pub output_of : (k : ℕ) (o acc : Complex) (s : Float) → o ≡ scaleᶜ acc s → acc ≡ sum_of m tw inverse a k → s ≡ unitary m → o ≡ output m tw inverse a k
  unfolding output
  output_of k o acc s e e' e'' = rw (e, e', e'')

  -- ---- the list
  pub length_transform : length (transform m tw inverse a) ≡ 2 * m
  unfolding transform
  length_transform = length_pairs (output m tw inverse a) m

  -- no more than m complex numbers are read
  pub transform_reads : (b : List Float) → ((j : ℕ) → j < m → complex_at a j ≡ complex_at b j) → transform m tw inverse a ≡ transform m tw inverse b
  unfolding transform output sum_of turn
  transform_reads b same =
      cat-same m _ _
      (λ k h.
      ap (λ (s : Sum). flat (scaleᶜ s.acc (unitary m)))
      (for_same (turn m tw inverse a k) (turn m tw inverse b k) 0 m start (λ j s u v. rw (same j (omega arith)))))

  -- so a copy of these does
  pub transform_copy : (l : List Float) → 2 * m ≤ length a → transform m tw inverse (take (2 * m) a ++ l) ≡ transform m tw inverse a
  transform_copy l long = sym (transform_reads (take (2 * m) a ++ l) (λ j h. sym (copied m a l j long h)))

pub length_forward : (m : ℕ) (tw v : List Float) → length (forward_of m tw v) ≡ 2 * m
unfolding forward_of
length_forward m tw v = length_transform m tw false v

pub length_inverse : (m : ℕ) (tw v : List Float) → length (inverse_of m tw v) ≡ 2 * m
unfolding inverse_of
length_inverse m tw v = length_transform m tw true v

-- what stands past the m numbers is not read
pub forward_front : (m : ℕ) (tw v l : List Float) → length v ≡ 2 * m → forward_of m tw (v ++ l) ≡ forward_of m tw v
unfolding forward_of
forward_front m tw v l h = transform_reads m tw false (v ++ l) v (λ j u. ap₂ complex (get_or-append v l nan (2 * j) (omega arith)) (get_or-append v l nan (2 * j + 1) (omega arith)))

-- ---- the twiddle factors
pub zeros_left : (n : ℕ) → n ≤ 218 → drop n (replicate 218 zero32) ≡ replicate (218 - n) zero32
zeros_left n h =
    let e : 218 ≡ n + (218 - n) = omega arith in
    ap (λ (x : ℕ). drop n (replicate x zero32)) e
    ∙ rw (← replicate-append-replicate n (218 - n) zero32) (drop_at (replicate n zero32) (replicate (218 - n) zero32) n (length-replicate n zero32))

-- ---- what the check uses of the loops
pub ruleset summing = (for_none, for_next, next_lt)

pub ruleset writing = (pairs_none, pairs_step, pairs_end)

pub ruleset twiddling = (pairs_none, pairs_step, pairs_end, zeros_left)
