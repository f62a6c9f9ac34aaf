-- What a proof uses of `cat`: nothing written yet, one stretch more, all written, lengths, one part taken out, one
-- element found.
use Prim.Native.Nat.{ℕ, zero, suc, ◌+◌, ◌-◌, ◌*◌, ◌≤◌, ◌<◌}
use Rattle.std.specs.Prelude.{◌≡◌, ◌⊎◌, take}
use Rattle.std.proofs.Math.Path.{refl, sym, ap}
use Rattle.std.proofs.Common.{ap₂, ◌∙◌, inl, inr, zero-mul, mul-le-mul_right, eq-or-lt_of_le, le_of_suc-le-suc, length-drop, drop-drop, length-take-le}
use mathlib.Core.List.{List, [], ◌++◌, append_assoc, append-nil}
use Rattle.std.proofs.Math.Nat.{suc-mul}
use Rattle.std.proofs.Math.Numerals.{add-one}
use Rattle.std.proofs.Math.Decide.{dec_lt}
use native.Mathlib.Omega.{arith}
use Rattle.std.proofs.Math.ListN.{length, drop, get_or, length-append, get_or-append}
use Rattle.std.proofs.Math.Seq.{take_at, drop_at, get_or-append-add}
use Rattle.seq.specs.Loop.{for}
use Rattle.seq.specs.Loop.Laws.{for_none, for_next}
use Rattle.seq.specs.Cat.{cat}

-- ---- parts of one length w, each the stretch of a longer list from k * w on

-- a loop has written nothing yet
pub cat-none {ℓ} : {A : Type ℓ} (w : ℕ) (f : ℕ → List A) (l : List A) → l ≡ cat 0 f ++ drop (0 * w) l
unfolding cat
cat-none w f l = ap (λ (n : ℕ). drop n l) (sym (zero-mul w))

-- or all of it
pub cat_end {ℓ} : {A : Type ℓ} (w : ℕ) (f : ℕ → List A) (k n : ℕ) (l m : List A) → k ≤ n → n ≤ k → m ≡ cat k f ++ drop (k * w) l → m ≡ cat n f ++ drop (n * w) l
cat_end w f k n l m h h' e = let q : k ≡ n = omega arith in rw q at e

module _ {ℓ} {A : Type ℓ} (w : ℕ) (f : ℕ → List A) (h : (j : ℕ) → length (f j) ≡ w) where
  pub length_cat : (k : ℕ) → length (cat k f) ≡ k * w
  unfolding cat
  length_cat zero = sym (zero-mul w)
  length_cat (suc k) = length-append (cat k f) (f k) ∙ omega (arith, length_cat k, h k, suc-mul k w)

  -- the next stretch was lent, filled, and came back
  pub cat_more : (k : ℕ) (l m : List A) → m ≡ cat k f ++ drop (k * w) l
      → take (k * w) m ++ (f k ++ drop w (drop (k * w) m)) ≡ cat (k + 1) f ++ drop ((k + 1) * w) l
  unfolding cat
  cat_more k l m e =
      rw (e, add-one, take_at (cat k f) (drop (k * w) l) (k * w) (length_cat k), drop_at (cat k f) (drop (k * w) l) (k * w) (length_cat k))
      (ap (λ (t : List A). cat k f ++ (f k ++ t)) (drop-drop w (k * w) l ∙ ap (λ (n : ℕ). drop n l) (sym (suc-mul k w)))
      ∙ sym (append_assoc (cat k f) (f k) (drop (suc k * w) l)))

  pub length_catted : (k : ℕ) (l : List A) → k * w ≤ length l → length (cat k f ++ drop (k * w) l) ≡ length l
  length_catted k l b = length-append (cat k f) (drop (k * w) l) ∙ omega (arith, length_cat k, length-drop (k * w) l)

-- the stretch of part j lies within the whole
pub stretch : (j n w m : ℕ) → j < n → n * w ≤ m → j * w + w ≤ m
stretch j n w m h l = omega (arith, mul-le-mul_right w h, suc-mul j w, l)

-- so many numbers are lent
pub lent {ℓ} : {A : Type ℓ} (a w : ℕ) (m : List A) → a + w ≤ length m → length (take (a + w - a) (drop a m)) ≡ w
lent a w m h = length-take-le (a + w - a) (drop a m) (omega (arith, length-drop a m)) ∙ omega arith

-- and come back as zs
pub returned {ℓ} : {A : Type ℓ} (a w : ℕ) (m ys zs : List A) → ys ≡ zs → take a m ++ (ys ++ drop (a + w - a) (drop a m)) ≡ take a m ++ (zs ++ drop w (drop a m))
returned a w m ys zs e = let n : a + w - a ≡ w = omega arith in rw (e, n) refl

-- ---- parts of any length

pub cat-same {ℓ} : {A : Type ℓ} (k : ℕ) (f g : ℕ → List A) → ((j : ℕ) → j < k → f j ≡ g j) → cat k f ≡ cat k g
unfolding cat
cat-same zero f g h = refl
cat-same (suc k) f g h = ap₂ (λ (l m : List _). l ++ m) (cat-same k f g (λ j b. h j (omega arith))) (h k (omega arith))

-- parts of at most w elements
pub length_cat_le : {A : Type 0} (w : ℕ) (f : ℕ → List A) → ((k : ℕ) → length (f k) ≤ w) → (n : ℕ) → length (cat n f) ≤ n * w
unfolding cat
length_cat_le w f h zero = omega arith
length_cat_le w f h (suc n) = omega (arith, length-append (cat n f) (f n), length_cat_le w f h n, h n, suc-mul n w)

-- the parts before i, part i, and what the parts after it come to, for two lists that agree but at i
pub record Between {A : Type 0} (f f' : ℕ → List A) (i n : ℕ) : Type 0 where
  pub after : List A
  pub one : cat n f ≡ cat i f ++ (f i ++ after)
  pub other : cat n f' ≡ cat i f ++ (f' i ++ after)

module _ {A : Type 0} (f f' : ℕ → List A) (i : ℕ) where
  pub cat_between : (n : ℕ) → i < n → ((k : ℕ) → k < n → (k ≡ i → ⊥) → f k ≡ f' k) → Between f f' i n
  unfolding cat
  cat_between zero h same = absurd (omega arith)
  cat_between (suc n) h same = go (eq-or-lt_of_le (le_of_suc-le-suc h)) (λ b. cat_between n b (λ k u v. same k (omega arith) v))
    where
      go : (i ≡ n) ⊎ (i < n) → (i < n → Between f f' i n) → Between f f' i (suc n)
      go (inl e) r = record {
        after = [];
        one = rw (e, append-nil (f n));
        other = rw (e, append-nil (f' n)) (ap (λ (l : List A). l ++ f' n) (sym (cat-same n f f' (λ k u. same k (omega arith) (λ q. omega arith)))));
      }
      go (inr b) r =
          let s = r b in
          record {
            after = s.after ++ f n;
            one = rw (s.one, append_assoc (cat i f) (f i ++ s.after) (f n), append_assoc (f i) s.after (f n));
            other = rw (s.other, ← same n (omega arith) (λ q. omega arith), append_assoc (cat i f) (f' i ++ s.after) (f n), append_assoc (f' i) s.after (f n));
          }

-- element t of part k
pub get_d_cat : {A : Type 0} (w : ℕ) (f : ℕ → List A) (d : A) → ((k : ℕ) → length (f k) ≡ w) → (n k t : ℕ) → k < n → t < w → get_or (cat n f) (k * w + t) d ≡ get_or (f k) t d
get_d_cat {A} w f d h n k t u v =
    let s = cat_between f f k n u (λ i p q. refl) in
    let e : length (cat k f) ≡ k * w = length_cat w f h k in
    ap (λ (l : List A). get_or l (k * w + t) d) s.one
    ∙ (ap (λ (m : ℕ). get_or (cat k f ++ (f k ++ s.after)) (m + t) d) (sym e)
    ∙ (get_or-append-add (cat k f) (f k ++ s.after) t d ∙ get_or-append (f k) s.after d t (omega (arith, h k))))

-- element i of the parts joined is element t of part k
pub record Place {A : Type 0} (f : ℕ → List A) (d : A) (n i : ℕ) : Type 0 where
  pub k : ℕ
  pub t : ℕ
  pub part : k < n
  pub element : t < length (f k)
  pub from : length (cat k f) ≤ i
  pub upto : i < length (cat (k + 1) f)
  pub same : get_or (cat n f) i d ≡ get_or (f k) t d

module _ {A : Type 0} (f : ℕ → List A) where
  pub cat_zero : cat 0 f ≡ []
  unfolding cat
  cat_zero = refl

  pub cat_suc : (k : ℕ) → cat (suc k) f ≡ cat k f ++ f k
  unfolding cat
  cat_suc k = refl

  pub cat_next : (k : ℕ) → length (cat (k + 1) f) ≡ length (cat k f) + length (f k)
  unfolding cat
  cat_next k = rw add-one (length-append (cat k f) (f k))

  pub cat_order : (a k : ℕ) → length (cat a f) ≤ length (cat (a + k) f)
  cat_order a zero = let e : a + 0 ≡ a = omega arith in rw e (omega arith)
  cat_order a (suc k) = let e : a + suc k ≡ a + k + 1 = omega arith in rw e (omega (arith, cat_next (a + k), cat_order a k))

  pub place : (d : A) (n i : ℕ) → i < length (cat n f) → Place f d n i
  unfolding cat
  place d zero i h = absurd (omega arith)
  place d (suc n) i h = go (dec_lt i (length (cat n f))) (λ u. place d n i u)
    where
      go : Dec (i < length (cat n f)) → (i < length (cat n f) → Place f d n i) → Place f d (suc n) i
      go (yes u) r =
          let p = r u in
          record { k = p.k; t = p.t; part = omega (arith, p.part); element = p.element; from = p.from; upto = p.upto; same = get_or-append (cat n f) (f n) d i u ∙ p.same }
      go (no u) r =
          let t = i - length (cat n f) in
          let e : i ≡ length (cat n f) + t = omega arith in
          let l : length (cat n f ++ f n) ≡ length (cat n f) + length (f n) = length-append (cat n f) (f n) in
          record {
            k = n;
            t = t;
            part = omega arith;
            element = omega arith;
            from = omega arith;
            upto = omega (arith, cat_next n);
            same = ap (λ (x : ℕ). get_or (cat n f ++ f n) x d) e ∙ get_or-append-add (cat n f) (f n) t d;
          }

  pub cat_add : (m n : ℕ) → cat (m + n) f ≡ cat m f ++ cat n (λ i. f (m + i))
  unfolding cat
  cat_add m zero = let e : m + 0 ≡ m = omega arith in rw (e, append-nil (cat m f))
  cat_add m (suc n) = let e : m + suc n ≡ suc (m + n) = omega arith in rw (e, cat_add m n, append_assoc (cat m f) (cat n (λ i. f (m + i))) (f (m + n)))

  -- n rows of d parts
  pub cat_rows : (n d : ℕ) → cat (n * d) f ≡ cat n (λ s. cat d (λ i. f (s * d + i)))
  unfolding cat
  cat_rows zero d = let e : 0 * d ≡ 0 = omega arith in rw e
  cat_rows (suc n) d = rw (suc-mul n d, cat_add (n * d) d, cat_rows n d)

  -- a loop that appends
  pub cat_for : (n : ℕ) (l : List A) → for 0 n (λ i r. r ++ f i) l ≡ l ++ cat n f
  unfolding cat
  cat_for zero l = sym (for_none (λ i r. r ++ f i) 0 l) ∙ sym (append-nil l)
  cat_for (suc n) l =
      let e : suc n ≡ n + 1 = omega arith in
      rw (e, for_next (λ (i : ℕ) (r : List A). r ++ f i) 0 n l (omega arith), cat_for n l, append_assoc l (cat n f) (f n))
