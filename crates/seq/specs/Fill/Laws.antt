-- What a proof uses of `fill`: nothing written yet, one element more, its length and its elements; and that with each
-- place taken once nothing of the old list is left.
use Prim.Native.Nat.{ℕ, zero, suc, ◌+◌, ◌<◌, ◌≤◌}
use Rattle.std.specs.Prelude.{◌≡◌, ◌⊎◌, List, ◌++◌, length, set, take, drop}
use Rattle.std.proofs.Math.Path.{refl}
use Rattle.std.proofs.Common.{sym, ap, ◌∙◌, inl, inr, eq-or-lt_of_le, le_of_suc-le-suc, add-one, arith, take-append-drop, get_or-set_same, ext_get_or, get_or-take, length-take-le}
use Rattle.std.proofs.Math.ListN.{get_or, length-set}
use Rattle.std.proofs.Math.Seq.{get_or-set_other, drop-set-lt}
use Rattle.seq.specs.Fill.{fill, EachOnce}

module _ {ℓ} {A : Type ℓ} (place : ℕ → ℕ) (val : ℕ → A) where
  pub fill_none : (l : List A) → l ≡ fill place val 0 l
  unfolding fill
  fill_none l = refl

  -- at a loop's state: one more is put at its place
  pub fill_step : (k s : ℕ) (v : A) (l₀ l : List A) → l ≡ fill place val k l₀ → s ≡ place k → v ≡ val k → set l s v ≡ fill place val (k + 1) l₀
  unfolding fill
  fill_step k s v l₀ l e f g = rw (add-one, e, f, g) refl

  pub fill_end : (k n : ℕ) (l₀ l : List A) → k ≤ n → n ≤ k → l ≡ fill place val k l₀ → l ≡ fill place val n l₀
  fill_end k n l₀ l h h' e = let q : k ≡ n = omega arith in rw q at e

  pub length_fill : (k : ℕ) (l : List A) → length (fill place val k l) ≡ length l
  unfolding fill
  length_fill zero l = refl
  length_fill (suc k) l = length-set (fill place val k l) (place k) (val k) ∙ length_fill k l

module _ {ℓ} {A : Type ℓ} (n : ℕ) (place : ℕ → ℕ) (val : ℕ → A) (each : EachOnce n place) where
  pub drop_fill : (k : ℕ) (l : List A) → k ≤ n → drop n (fill place val k l) ≡ drop n l
  unfolding fill
  drop_fill zero l h = refl
  drop_fill (suc k) l h = drop-set-lt n (fill place val k l) (place k) (val k) (each.within k (omega arith)) ∙ drop_fill k l (omega arith)

  pub fill_at : (d : A) (l : List A) (k i : ℕ) → n ≤ length l → k ≤ n → i < k → get_or (fill place val k l) (place i) d ≡ val i
  unfolding fill
  fill_at d l zero i hl hk hi = absurd (omega arith)
  fill_at d l (suc k) i hl hk hi = go (eq-or-lt_of_le (le_of_suc-le-suc hi)) (λ b. fill_at d l k i hl (omega arith) b)
    where
      go : (i ≡ k) ⊎ (i < k) → (i < k → get_or (fill place val k l) (place i) d ≡ val i) → get_or (set (fill place val k l) (place k) (val k)) (place i) d ≡ val i
      go (inl e) f = rw e (get_or-set_same (fill place val k l) (place k) (val k) d (omega (arith, length_fill place val k l, each.within k (omega arith))))
      go (inr b) f =
          get_or-set_other (fill place val k l) (place k) (place i) (val k) d (λ e. omega (arith, each.once i k (omega arith) (omega arith) e))
          ∙ f b

  -- the n elements are the same whatever stood there before
  pub fill_whole : (d : A) (l m : List A) → n ≤ length l → length m ≡ n → take n (fill place val n l) ≡ fill place val n m
  fill_whole d l m hl hm =
      let long : length (take n (fill place val n l)) ≡ n = length-take-le n (fill place val n l) (omega (arith, length_fill place val n l)) in
      ext_get_or d (take n (fill place val n l)) (fill place val n m) (long ∙ sym (length_fill place val n m ∙ hm))
      (λ s hs.
      let b = each.taken s (omega (arith, long)) in
      ap (λ (z : ℕ). get_or (take n (fill place val n l)) z d) (sym b.2)
      ∙ get_or-take n (fill place val n l) (place b.0) d (each.within b.0 b.1)
      ∙ fill_at d l n b.0 hl (omega arith) b.1
      ∙ sym (fill_at d m n b.0 (omega arith) (omega arith) b.1)
      ∙ ap (λ (z : ℕ). get_or (fill place val n m) z d) b.2)

  -- so a buffer filled is a list filled, and what was past it
  pub filled : (d : A) (l m : List A) → n ≤ length l → length m ≡ n → fill place val n l ≡ fill place val n m ++ drop n l
  filled d l m hl hm =
      sym (take-append-drop n (fill place val n l))
      ∙ (ap (λ (t : List A). t ++ drop n (fill place val n l)) (fill_whole d l m hl hm) ∙ ap (λ (t : List A). fill place val n m ++ t) (drop_fill n l (omega arith)))
