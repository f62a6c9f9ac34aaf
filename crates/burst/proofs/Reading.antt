-- A number read back from the bytes that it was written in. Assumes nothing.
use Prim.Native.Nat.{ℕ, ◌+◌, ◌*◌, ◌<◌}
use mathlib.Core.Path.{◌≡◌, ap, ◌∙◌}
use mathlib.Core.List.{List, ◌++◌}
use native.Mathlib.Omega.{arith}
use lib.ListN.{length, get_or, get_or-append}
use lib.Seq.{get_or-append-add}
use Rattle.seq.specs.Cat.{cat}
use Rattle.seq.specs.Cat.Laws.{length_cat, get_d_cat}
use Rattle.words.specs.Bytes.{word_at, word}
use Rattle.words.proofs.Stored.{length_word}

-- past a part p of n bytes
pub word_past : (p l : List ℕ) (n k : ℕ) → length p ≡ n → word_at (p ++ l) (n + k) ≡ word_at l k
unfolding word_at
word_past p l n k e = omega (arith, at (n + k) k (omega arith), at (n + k + 1) (k + 1) (omega arith), at (n + k + 2) (k + 2) (omega arith), at (n + k + 3) (k + 3) (omega arith))
  where
    at : (m t : ℕ) → m ≡ length p + t → get_or (p ++ l) m 0 ≡ get_or l t 0
    at m t q = ap (λ (j : ℕ). get_or (p ++ l) j 0) q ∙ get_or-append-add p l t 0

-- number i of several
pub word_of : (g : ℕ → ℕ) (n i : ℕ) (l : List ℕ) → i < n → word_at (cat n (λ k. word (g k)) ++ l) (4 * i) ≡ g i
unfolding word_at word
word_of g n i l h = omega (arith, at (4 * i) 0 (omega arith) (omega arith), at (4 * i + 1) 1 (omega arith) (omega arith), at (4 * i + 2) 2 (omega arith) (omega arith), at (4 * i + 3) 3 (omega arith) (omega arith))
  where
    part : ℕ → List ℕ
    part k = word (g k)

    at : (m t : ℕ) → m ≡ i * 4 + t → t < 4 → get_or (cat n part ++ l) m 0 ≡ get_or (part i) t 0
    at m t q b =
        get_or-append (cat n part) l 0 m (omega (arith, length_cat 4 part (λ k. length_word (g k)) n))
        ∙ (ap (λ (j : ℕ). get_or (cat n part) j 0) q ∙ get_d_cat 4 part 0 (λ k. length_word (g k)) n i t h b)
