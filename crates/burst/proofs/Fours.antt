-- Bytes four at a time. Assumes nothing.
use Rattle.std.proofs.Common.{◌≡◌, ℕ, zero, suc, ◌+◌, ◌*◌, ◌/◌, ◌<◌, ◌≤◌, List, [], length, get_or, take, drop, ap, ◌∙◌, sym, arith, length-drop, length-take-le}
use Rattle.std.specs.Simd.{first_chunks}
use Rattle.std.proofs.lemmas.List.{get_or-take, get_or-drop}
use Rattle.seq.specs.Cat.{cat}
use Rattle.seq.specs.Cat.Laws.{cat-same}
use Rattle.words.specs.Bytes.{word_at}
use Rattle.burst.specs.Lines.{line_of}

byte_in : (i n m t : ℕ) (xs : List ℕ) → i < n → t < 4 → m ≡ 4 * i + t → get_or (get_or (first_chunks 4 n xs) i []) t 0 ≡ get_or xs m 0
byte_in i zero m t xs h k e = absurd (omega arith)
byte_in zero (suc n) m t xs h k e = get_or-take 4 xs t 0 k ∙ ap (λ j. get_or xs j 0) (omega arith)
byte_in (suc i) (suc n) m t xs h k e =
    byte_in i n (4 * i + t) t (drop 4 xs) (omega arith) k (omega arith) ∙ (get_or-drop 4 xs (4 * i + t) 0 ∙ ap (λ j. get_or xs j 0) (omega arith))

-- number i of n is the i-th four bytes
pub word_in : (i n : ℕ) (xs : List ℕ) → i < n → word_at (get_or (first_chunks 4 n xs) i []) 0 ≡ word_at xs (4 * i)
unfolding word_at
word_in i n xs h =
    omega (arith, byte_in i n (4 * i) 0 xs h (omega arith) (omega arith), byte_in i n (4 * i + 1) 1 xs h (omega arith) (omega arith), byte_in i n (4 * i + 2) 2 xs h (omega arith) (omega arith), byte_in i n (4 * i + 3) 3 xs h (omega arith) (omega arith))

-- the lines of n numbers of a list, from place a on
word_part : (xs : List ℕ) (a n m i : ℕ) → m ≡ 4 * n → i < n → word_at (take m (drop a xs)) (4 * i) ≡ word_at xs (a + 4 * i)
unfolding word_at
word_part xs a n m i e h = omega (arith, at (4 * i) (a + 4 * i) (omega arith) (omega arith), at (4 * i + 1) (a + 4 * i + 1) (omega arith) (omega arith), at (4 * i + 2) (a + 4 * i + 2) (omega arith) (omega arith), at (4 * i + 3) (a + 4 * i + 3) (omega arith) (omega arith))
  where
    at : (j k : ℕ) → k ≡ a + j → j < m → get_or (take m (drop a xs)) j 0 ≡ get_or xs k 0
    at j k q b = get_or-take m (drop a xs) j 0 b ∙ (get_or-drop a xs j 0 ∙ ap (λ p. get_or xs p 0) (sym q))

pub lines_part : (xs : List ℕ) (a n m : ℕ) → m ≡ 4 * n → a + m ≤ length xs
    → cat (length (take m (drop a xs)) / 4) (λ i. line_of (word_at (take m (drop a xs)) (4 * i))) ≡ cat n (λ i. line_of (word_at xs (a + 4 * i)))
lines_part xs a n m e h =
    let part : List ℕ = take m (drop a xs) in
    let count : length part / 4 ≡ n = omega (arith, length-take-le m (drop a xs) (omega (arith, length-drop a xs))) in
    ap (λ k. cat k (λ i. line_of (word_at part (4 * i)))) count
    ∙ cat-same n (λ i. line_of (word_at part (4 * i))) (λ i. line_of (word_at xs (a + 4 * i))) (λ i b. ap line_of (word_part xs a n m i e b))
