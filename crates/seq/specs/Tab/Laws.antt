-- What a proof uses of `tab`: nothing written yet, one element more, its length and its elements.
use Prim.Native.Nat.{ℕ, zero, suc, ◌+◌, ◌<◌, ◌≤◌}
use Rattle.std.specs.Prelude.{◌≡◌, ◌⊎◌, length, take, drop}
use Rattle.std.proofs.Math.Path.{refl, sym, ap}
use Rattle.std.proofs.Common.{ap₂, ◌∙◌, inl, inr, eq-or-lt_of_le, le_of_suc-le-suc, arith, length-drop, length-take-le, drop-cons, ext_get_or}
use mathlib.Core.List.{List, [], ◌∷◌, ◌++◌, append_assoc, append-nil}
use Rattle.std.proofs.Math.Numerals.{add-one}
use Rattle.std.proofs.Math.ListN.{get_or, set, length-append, get_or-append, drop_of_length-le}
use Rattle.std.proofs.Math.Seq.{set_at, get_or_at}
use Rattle.seq.specs.Tab.{tab}

module _ {ℓ} {A : Type ℓ} (f : ℕ → A) where
  pub length_tab : (k : ℕ) → length (tab k f) ≡ k
  unfolding tab
  length_tab zero = refl
  length_tab (suc k) = length-append (tab k f) (f k ∷ []) ∙ omega (arith, length_tab k)

  -- a loop has written nothing yet
  pub tab_none : (l : List A) → l ≡ tab 0 f ++ drop 0 l
  unfolding tab
  tab_none l = refl

  -- it writes one more
  pub tab_more : (k : ℕ) (l : List A) → k < length l → set (tab k f ++ drop k l) k (f k) ≡ tab (k + 1) f ++ drop (k + 1) l
  unfolding tab
  tab_more k l h =
      rw add-one
      (ap (λ (t : List A). set (tab k f ++ t) k (f k)) (drop-cons l k (f k) h)
      ∙ set_at (tab k f) (get_or l k (f k)) (drop (suc k) l) (f k) k (length_tab k)
      ∙ sym (append_assoc (tab k f) (f k ∷ []) (drop (suc k) l)))

  -- the same at a loop's state: l is what was written below k, and v the next element
  pub tab_step : (k : ℕ) (l₀ l : List A) (v : A) → k < length l₀ → l ≡ tab k f ++ drop k l₀ → v ≡ f k → set l k v ≡ tab (k + 1) f ++ drop (k + 1) l₀
  tab_step k l₀ l v h e e' = rw (e, e') (tab_more k l₀ h)

  -- it has written all: k is no longer below n
  pub tab_end : (k n : ℕ) (l₀ l : List A) → k ≤ n → n ≤ k → l ≡ tab k f ++ drop k l₀ → l ≡ tab n f ++ drop n l₀
  tab_end k n l₀ l h h' e = let q : k ≡ n = omega arith in rw q at e

  -- a loop over a whole list has written all of it
  pub tab_whole : (k : ℕ) (l₀ l : List A) → k ≤ length l₀ → length l₀ ≤ k → l ≡ tab k f ++ drop k l₀ → l ≡ tab (length l₀) f
  tab_whole k l₀ l h h' e =
      tab_end k (length l₀) l₀ l h h' e
      ∙ (ap (λ (t : List A). tab (length l₀) f ++ t) (drop_of_length-le l₀ (omega arith)) ∙ append-nil (tab (length l₀) f))

  -- a loop over the first n of l has written them, and the rest is l's
  pub tab_front : (n k : ℕ) (l front : List A) → n ≤ length l → k ≤ n → n ≤ k → front ≡ tab k f ++ drop k (take n l) → front ++ drop n l ≡ tab n f ++ drop n l
  tab_front n k l front within h h' e =
      let all : length (take n l) ≡ n = length-take-le n l within in
      let whole : front ≡ tab n f ++ drop n (take n l) = tab_end k n (take n l) front h h' e in
      ap (λ (t : List A). t ++ drop n l) (whole ∙ ap (λ (t : List A). tab n f ++ t) (drop_of_length-le (take n l) (omega arith)) ∙ append-nil (tab n f))

  -- what is still to be written is the old list's
  pub tab_unread : (k : ℕ) (l₀ l : List A) (d : A) → k < length l₀ → l ≡ tab k f ++ drop k l₀ → get_or l k d ≡ get_or l₀ k d
  tab_unread k l₀ l d h e =
      rw e
      (ap (λ (t : List A). get_or (tab k f ++ t) k d) (drop-cons l₀ k d h) ∙ get_or_at (tab k f) (get_or l₀ k d) (drop (suc k) l₀) d k (length_tab k))

  pub length_tabbed : (k : ℕ) (l : List A) → k ≤ length l → length (tab k f ++ drop k l) ≡ length l
  length_tabbed k l h = length-append (tab k f) (drop k l) ∙ omega (arith, length_tab k, length-drop k l)

  pub get_d_tab : (k i : ℕ) (d : A) → i < k → get_or (tab k f) i d ≡ f i
  unfolding tab
  get_d_tab zero i d h = absurd (omega arith)
  get_d_tab (suc k) i d h = go (eq-or-lt_of_le (le_of_suc-le-suc h)) (λ b. get_d_tab k i d b)
    where
      go : (i ≡ k) ⊎ (i < k) → (i < k → get_or (tab k f) i d ≡ f i) → get_or (tab k f ++ (f k ∷ [])) i d ≡ f i
      go (inl e) r = get_or_at (tab k f) (f k) [] d i (length_tab k ∙ sym e) ∙ ap f (sym e)
      go (inr b) r = get_or-append (tab k f) (f k ∷ []) d i (omega (arith, length_tab k)) ∙ r b

  -- a list with these elements is this list
  pub tab_only : (k : ℕ) (d : A) (l : List A) → length l ≡ k → ((i : ℕ) → i < k → get_or l i d ≡ f i) → l ≡ tab k f
  tab_only k d l h same =
      ext_get_or d l (tab k f) (h ∙ sym (length_tab k)) (λ i b. let b' : i < k = omega (arith, h) in same i b' ∙ sym (get_d_tab k i d b'))

-- a list is made of its elements
pub tab-itself {ℓ} : {A : Type ℓ} (n : ℕ) (d : A) (l : List A) → length l ≡ n → tab n (λ i. get_or l i d) ≡ l
tab-itself n d l h = sym (tab_only (λ i. get_or l i d) n d l h (λ i b. refl))

pub tab-same {ℓ} : {A : Type ℓ} (k : ℕ) (f g : ℕ → A) → ((i : ℕ) → i < k → f i ≡ g i) → tab k f ≡ tab k g
unfolding tab
tab-same zero f g h = refl
tab-same (suc k) f g h = ap₂ (λ (l : List _) (x : _). l ++ (x ∷ [])) (tab-same k f g (λ i b. h i (omega arith))) (h k (omega arith))
