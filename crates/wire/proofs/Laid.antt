-- Numbers laid out in bytes, and read again. Assumes nothing.
use Prim.Native.Nat.{ℕ, zero, suc, ◌+◌, ◌*◌, ◌/◌, ◌^◌, ◌<◌}
use mathlib.Core.Path.{◌≡◌, refl, sym, ap, ap₂, ◌∙◌}
use mathlib.Core.Bool.{Bool}
use mathlib.Core.List.{List, [], ◌∷◌, ◌++◌}
use native.Mathlib.Omega.{arith}
use lib.Dec.{T}
use lib.ListN.{length, get_or, length-append, get_or-append}
use lib.Seq.{get_or-append-add}
use lib.Ieee.{Float, binary32, nan, fits, to_bits, of_bits}
use lib.Ieee.Fits.{and_i, and_l, and_r}
use lib.Ieee.Bits.{of_bits-to_bits}
use Rattle.seq.specs.Cat.{cat}
use Rattle.seq.specs.Cat.Laws.{cat-same, cat_add, cat_zero, cat_suc, get_d_cat}
use Rattle.seq.specs.Tab.{tab}
use Rattle.seq.specs.Tab.Laws.{tab_only}
use Rattle.scan.specs.Fine.{all}
use Rattle.words.specs.Bytes.{word_at, word, number}
use Rattle.words.proofs.Stored.{length_word}
use Rattle.refine.specs.declared.whole.Refined.{Refined}
use Rattle.wire.specs.Bytes.{report_bytes}
use Rattle.wire.specs.Layout.{numbers_laid}
use Rattle.wire.specs.Record.{number_at}
use Rattle.wire.proofs.Digits.{four_bytes}

-- ---- every number of a list

module _ (p : Float → Bool) where
  pub all_at : (xs : List Float) (i : ℕ) → i < length xs → T (all p xs) → T (p (get_or xs i nan))
  unfolding all
  all_at [] i h t = absurd (omega arith)
  all_at (x ∷ xs) zero h t = and_l (p x) (all p xs) t
  all_at (x ∷ xs) (suc i) h t = all_at xs i (omega arith) (and_r (p x) (all p xs) t)

  pub all_of : (xs : List Float) → ((i : ℕ) → i < length xs → T (p (get_or xs i nan))) → T (all p xs)
  unfolding all
  all_of [] h = tt
  all_of (x ∷ xs) h = and_i (p x) (all p xs) (h 0 (omega arith)) (all_of xs (λ i b. h (suc i) (omega arith)))

  pub all_append : (xs ys : List Float) → T (all p xs) → T (all p ys) → T (all p (xs ++ ys))
  unfolding all
  all_append [] ys t u = u
  all_append (x ∷ xs) ys t u = and_i (p x) (all p (xs ++ ys)) (and_l (p x) (all p xs) t) (all_append xs ys (and_r (p x) (all p xs) t) u)

  pub all_cons : (x : Float) (xs : List Float) → T (p x) → T (all p xs) → T (all p (x ∷ xs))
  unfolding all
  all_cons x xs t u = and_i (p x) (all p xs) t u

-- ---- lists laid out one after the other are one list laid out

pub laid_append : (xs ys : List Float) → numbers_laid xs ++ numbers_laid ys ≡ numbers_laid (xs ++ ys)
laid_append xs ys =
    let f : ℕ → List ℕ = λ i. number (get_or (xs ++ ys) i nan) in
    ap₂ (λ (a b : List ℕ). a ++ b)
    (cat-same (length xs) (λ i. number (get_or xs i nan)) f (λ i b. ap number (sym (get_or-append xs ys nan i b))))
    (cat-same (length ys) (λ i. number (get_or ys i nan)) (λ i. f (length xs + i)) (λ i b. ap number (sym (get_or-append-add xs ys i nan))))
    ∙ sym (cat_add f (length xs) (length ys))
    ∙ ap (λ (n : ℕ). cat n f) (sym (length-append xs ys))

laid_one : (x : Float) → numbers_laid (x ∷ []) ≡ number x
laid_one x = let f : ℕ → List ℕ = λ i. number (get_or (x ∷ []) i nan) in cat_suc f 0 ∙ ap (λ (l : List ℕ). l ++ number x) (cat_zero f)

pub laid_cons : (x : Float) (xs : List Float) → number x ++ numbers_laid xs ≡ numbers_laid (x ∷ xs)
laid_cons x xs = ap (λ (l : List ℕ). l ++ numbers_laid xs) (sym (laid_one x)) ∙ laid_append (x ∷ []) xs

-- ---- reading

word_back : (bytes : List ℕ) (k x : ℕ) → ((t : ℕ) → t < 4 → get_or bytes (k + t) 0 ≡ get_or (word x) t 0) → word_at bytes k ≡ x
unfolding word_at word
word_back bytes k x h =
    let z : get_or bytes k 0 ≡ x / 2 ^ 24 = ap (λ (n : ℕ). get_or bytes n 0) (omega arith) ∙ h 0 (omega arith) in
    rw (z, h 1 (omega arith), h 2 (omega arith), h 3 (omega arith)) (four_bytes x)

module _ (hd : List ℕ) (six : length hd ≡ 6) (xs : List Float) where
  byte_of : (i t : ℕ) → i < length xs → t < 4 → get_or (hd ++ numbers_laid xs) (6 + 4 * i + t) 0 ≡ get_or (number (get_or xs i nan)) t 0
  byte_of i t h k =
      let e : 6 + 4 * i + t ≡ length hd + (i * 4 + t) = omega (arith, six) in
      ap (λ (n : ℕ). get_or (hd ++ numbers_laid xs) n 0) e
      ∙ get_or-append-add hd (numbers_laid xs) (i * 4 + t) 0
      ∙ get_d_cat 4 (λ j. number (get_or xs j nan)) 0 (λ j. length_word (to_bits binary32 (get_or xs j nan))) (length xs) i t h k

  -- number i past the six bytes
  pub number_back : T (all (fits binary32) xs) → (i : ℕ) → i < length xs → number_at (hd ++ numbers_laid xs) i ≡ get_or xs i nan
  number_back t i h =
      ap (of_bits binary32) (word_back (hd ++ numbers_laid xs) (6 + 4 * i) (to_bits binary32 (get_or xs i nan)) (λ j k. byte_of i j h k))
      ∙ of_bits-to_bits binary32 (get_or xs i nan) (all_at (fits binary32) xs i h t)

-- a part of the numbers, by where it stands
pub part_back : (rec : List ℕ) (before part after : List Float) (a n : ℕ)
    → ((i : ℕ) → i < length (before ++ (part ++ after)) → number_at rec i ≡ get_or (before ++ (part ++ after)) i nan)
    → length before ≡ a → length part ≡ n → tab n (λ i. number_at rec (a + i)) ≡ part
part_back rec before part after a n h la ln =
    sym
    (tab_only (λ i. number_at rec (a + i)) n nan part ln
    (λ i b.
    let e : a + i ≡ length before + i = omega arith in
    let u : a + i < length (before ++ (part ++ after)) = omega (arith, length-append before (part ++ after), length-append part after) in
    sym
    (h (a + i) u
    ∙ ap (λ (k : ℕ). get_or (before ++ (part ++ after)) k nan) e
    ∙ get_or-append-add before (part ++ after) i nan
    ∙ get_or-append part after nan i (omega arith))))

-- how long a report is
pub length_report : (r : Refined) → length (report_bytes r) ≡ 10
unfolding report_bytes word
length_report r = refl
