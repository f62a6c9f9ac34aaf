-- The model that `select_model` answers is the first with the smallest residual; its indices and its scale are in
-- range.
use Rattle.std.proofs.Common.{◌≡◌, ℕ, zero, suc, ◌/◌, ◌%◌, ◌<◌, Bool, true, false, cond, ◌⊎◌, List, sym, refl, ap, ◌∙◌, subst, inl, inr, le_of_suc-le-suc, eq-or-lt_of_le, add-one, arith}
use lib.Ieee.{Float, lt, le}
use lib.Ieee.Bits.{is_false}
use Rattle.seq.specs.Loop.{for}
use Rattle.seq.specs.Loop.Laws.{for_none, for_next}
use Rattle.ieee.specs.Num.{one32}
use Rattle.ieee.proofs.Orders.{not_below_itself}
use Rattle.ieee.proofs.Transitive.{not_as_small, not_smaller}
use Rattle.load.specs.declared.pilot.Pilot.{Pilot}
use Rattle.model.specs.Select.{model, best, none, scale_of, better, tried, next, select_model}
use Rattle.model.specs.Laws.{OfGrid, Chosen, Fallback, FirstLeast, InRange}
use Rattle.model.specs.declared.trial.Setting.{Setting}
use Rattle.model.specs.declared.select.BestModel.{BestModel}
use Rattle.model.proofs.Ranges.{scale_range}

module _ (s : Setting) (ps : List Pilot) (start : List ℕ) where
  abbrev r : ℕ → Float
  r t = (tried s ps start t).r

  abbrev of : ℕ → BestModel
  of t = best (r t) (model (t / 3) (t % 3) (scale_of (tried s ps start t)))

  record Leads (n : ℕ) (b : BestModel) (t : ℕ) : Type 0 where
    below : t < n
    is : b ≡ of t
    first : (u : ℕ) → u < t → le (r u) (r t) ≡ false

  -- the first n were tried, and b is the best of them
  record Judged (n : ℕ) (b : BestModel) : Type 0 where
    least : (u : ℕ) → u < n → lt (r u) b.r ≡ false
    whose : ((t : ℕ) × Leads n b t) ⊎ (b ≡ none)

  step : (n : ℕ) (b : BestModel) → Judged n b → Judged (suc n) (next s ps start n b)
  unfolding next better
  step n b h = go (lt (r n) b.r) refl
    where
      upto : (P : ℕ → Type 0) → P n → ((u : ℕ) → u < n → P u) → (u : ℕ) → u < suc n → P u
      upto P p f u l = at (eq-or-lt_of_le (le_of_suc-le-suc l))
        where
          at : (u ≡ n) ⊎ (u < n) → P u
          at (inl e) = rw e p
          at (inr k) = f u k

      go : (k : Bool) → lt (r n) b.r ≡ k → Judged (suc n) (cond k (of n) b)
      go true e =
          let first : (u : ℕ) → u < n → le (r u) (r n) ≡ false = λ u l. not_as_small (r u) (r n) b.r e (h.least u l) in
          record {
            least = upto (λ u. lt (r u) (r n) ≡ false) (is_false (lt (r n) (r n)) (not_below_itself (r n))) (λ u l. not_smaller (r u) (r n) (first u l));
            whose = inl (n, record { below = omega arith; is = refl; first = first });
          }
      go false e = record { least = upto (λ u. lt (r u) b.r ≡ false) e h.least; whose = later h.whose }
        where
          later : ((t : ℕ) × Leads n b t) ⊎ (b ≡ none) → ((t : ℕ) × Leads (suc n) b t) ⊎ (b ≡ none)
          later (inl w) = inl (w.0, record { below = omega (arith, w.1.below); is = w.1.is; first = w.1.first })
          later (inr w) = inr w

  all : (n : ℕ) → Judged n (for 0 n (next s ps start) none)
  all zero = subst (Judged 0) (for_none (next s ps start) 0 none) (record { least = λ u l. absurd (omega arith); whose = inr refl })
  all (suc n) =
      let e : for 0 (suc n) (next s ps start) none ≡ next s ps start n (for 0 n (next s ps start) none) = rw add-one at (for_next (next s ps start) 0 n none (omega arith)) in
      subst (Judged (suc n)) (sym e) (step n _ (all n))

  answers : (b : BestModel) → select_model s ps start ≡ b.model → Judged 9 b → ((t : ℕ) × Chosen s ps start t) ⊎ Fallback s ps start
  answers b e h = go h.whose
    where
      go : ((t : ℕ) × Leads 9 b t) ⊎ (b ≡ none) → ((t : ℕ) × Chosen s ps start t) ⊎ Fallback s ps start
      go (inl w) =
          let k = w.1.is in
          inl (w.0, record { below = w.1.below; is = e ∙ ap (λ b. b.model) k; least = λ u l. ap (λ b. lt (r u) b.r) (sym k) ∙ h.least u l; first = w.1.first })
      go (inr k) = inr (record { is = e ∙ ap (λ b. b.model) k; none = λ u l. ap (λ b. lt (r u) b.r) (sym k) ∙ h.least u l })

pub first_least : FirstLeast
unfolding FirstLeast select_model
first_least s ps start = answers s ps start (for 0 9 (next s ps start) none) refl (all s ps start 9)

of_grid : (s : Setting) (ps : List Pilot) (start : List ℕ) (t : ℕ) → Chosen s ps start t → OfGrid (select_model s ps start)
of_grid s ps start t c =
    let b = c.below in
    rw c.is (record { fd = omega arith; tm = omega arith; scale = scale_range (tried s ps start t) })

pub in_range : InRange
unfolding InRange FirstLeast
in_range s ps start = go (first_least s ps start)
  where
    go : ((t : ℕ) × Chosen s ps start t) ⊎ Fallback s ps start → OfGrid (select_model s ps start) ⊎ (select_model s ps start ≡ model 3 3 one32)
    go (inl w) = inl (of_grid s ps start w.0 w.1)
    go (inr w) = inr w.is
