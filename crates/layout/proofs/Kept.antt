-- The numbers below n that a test leaves, in order: by number and by place they are the same. Assumes nothing.
use Rattle.std.proofs.Common.{◌≡◌, ℕ, zero, suc, ◌+◌, ◌-◌, ◌<◌, ◌≤◌, Bool, true, false, cond, List, [], ◌∷◌, ◌++◌, length, get_or, refl, ap, ◌∙◌, arith, get_or-append-add}
use native.Mathlib.Decide.{dec_lt}
use Rattle.seq.specs.Cat.{cat}
use Rattle.seq.specs.Cat.Laws.{cat_next, cat_order, cat_between, place}

abbrev pub kept : (ℕ → Bool) → ℕ → List ℕ
kept off c = cond (off c) [] (c ∷ [])

pub kept_length : (off : ℕ → Bool) (c : ℕ) (b : Bool) → off c ≡ b → length (kept off c) ≡ cond b 0 1
kept_length off c true e = ap (λ (t : Bool). length (cond t [] (c ∷ []))) e
kept_length off c false e = ap (λ (t : Bool). length (cond t [] (c ∷ []))) e

-- c is the number at place j of those that are left below n
pub record At (off : ℕ → Bool) (n j c : ℕ) : Type 0 where
  pub within : c < n
  pub left : off c ≡ false
  pub index : length (cat c (kept off)) ≡ j
  pub same : get_or (cat n (kept off)) j 0 ≡ c

module _ (off : ℕ → Bool) (n : ℕ) where
  one : (c : ℕ) → off c ≡ false → length (cat (c + 1) (kept off)) ≡ length (cat c (kept off)) + 1
  one c e = cat_next (kept off) c ∙ omega (arith, kept_length off c false e)

  pub at_place : (j : ℕ) → j < length (cat n (kept off)) → At off n j (get_or (cat n (kept off)) j 0)
  at_place j h = let p = place (kept off) 0 n j h in go p.k p.t p.part p.from p.upto (off p.k) refl p.element p.same
    where
      found : (k : ℕ) → k < n → off k ≡ false → length (cat k (kept off)) ≡ j → get_or (cat n (kept off)) j 0 ≡ k → At off n j (get_or (cat n (kept off)) j 0)
      found k b e i s = record { within = rw s b; left = rw s e; index = rw s i; same = refl }

      go : (k t : ℕ) → k < n → length (cat k (kept off)) ≤ j → j < length (cat (k + 1) (kept off)) → (b : Bool) → off k ≡ b
          → t < length (cond b [] (k ∷ [])) → get_or (cat n (kept off)) j 0 ≡ get_or (cond b [] (k ∷ [])) t 0 → At off n j (get_or (cat n (kept off)) j 0)
      go k t b u v true e l s = absurd (omega arith)
      go k zero b u v false e l s = found k b e (omega (arith, one k e)) s
      go k (suc t) b u v false e l s = absurd (omega arith)

  pub at_number : (c : ℕ) → c < n → off c ≡ false → At off n (length (cat c (kept off))) c
  at_number c h e =
      let f = kept off in
      let s = cat_between f f c n h (λ k p q. refl) in
      record {
        within = h;
        left = e;
        index = refl;
        same =
            ap (λ (l : List ℕ). get_or l (length (cat c f)) 0) s.one
            ∙ ap (λ (i : ℕ). get_or (cat c f ++ (f c ++ s.after)) i 0) (let z : length (cat c f) ≡ length (cat c f) + 0 = omega arith in z)
            ∙ get_or-append-add (cat c f) (f c ++ s.after) 0 0
            ∙ ap (λ (b : Bool). get_or (cond b [] (c ∷ []) ++ s.after) 0 0) e;
      }

  order : (a b : ℕ) → a ≤ b → length (cat a (kept off)) ≤ length (cat b (kept off))
  order a b h = let e : a + (b - a) ≡ b = omega arith in rw e at (cat_order (kept off) a (b - a))

  pub place_below : (c : ℕ) → c < n → off c ≡ false → length (cat c (kept off)) < length (cat n (kept off))
  place_below c h e = omega (arith, one c e, order (c + 1) n (omega arith))

  pub ascending : (i j c d : ℕ) → i < j → At off n i c → At off n j d → c < d
  ascending i j c d h p q = go (dec_lt c d)
    where
      go : Dec (c < d) → c < d
      go (yes l) = l
      go (no l) = absurd (omega (arith, order d c (omega arith), p.index, q.index))
