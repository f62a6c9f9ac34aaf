-- What a proof uses of `for` and `back`: nothing done yet, one turn more, the end, and what every turn keeps.
use Prim.Native.Nat.{ℕ, zero, suc, ◌+◌, ◌-◌, ◌≤◌, ◌<◌}
use Rattle.std.specs.Prelude.{◌≡◌}
use Rattle.std.proofs.Math.Path.{refl, ap}
use Rattle.std.proofs.Common.{sym, ◌∙◌}
use native.Mathlib.Omega.{arith}
use Rattle.seq.specs.Loop.{turns, for, back}

-- ---- turn i of n: it leaves the index within, and fewer turns

pub turn_more : {i n : ℕ} → i < n → i + 1 ≤ n
turn_more b = omega arith

pub turn_less : {i n : ℕ} → i < n → n - (i + 1) < n - i
turn_less b = omega arith

-- ---- the state

module _ {S : Type 0} (f : ℕ → S → S) where
  -- before the first turn
  pub for_none : (a : ℕ) (s : S) → s ≡ for a a f s
  unfolding for turns
  for_none a s = ap (λ (n : ℕ). turns f a n s) (let e : 0 ≡ a - a = omega arith in e)

  -- one turn more
  pub for_next : (a b : ℕ) (s : S) → a ≤ b → for a (b + 1) f s ≡ f b (for a b f s)
  unfolding for turns
  for_next a b s h =
      let e : b + 1 - a ≡ suc (b - a) = omega arith in
      let e' : a + (b - a) ≡ b = omega arith in
      ap (λ (n : ℕ). turns f a n s) e ∙ ap (λ (i : ℕ). f i (turns f a (b - a) s)) e'

  -- the same at a loop's state: s is what the turns below b made, and t what the turn b makes of s
  pub for_step : (a b : ℕ) (s₀ s t : S) → a ≤ b → s ≡ for a b f s₀ → t ≡ f b s → t ≡ for a (b + 1) f s₀
  for_step a b s₀ s t h e e' = rw (for_next a b s₀ h, ← e, e')

  pub back_none : (s : S) → back 0 f s ≡ s
  unfolding back
  back_none s = refl

  pub back_next : (n : ℕ) (s : S) → 0 < n → back n f s ≡ back (n - 1) f (f (n - 1) s)
  unfolding back
  back_next n s h =
      let e : n ≡ suc (n - 1) = omega arith in
      ap (λ (m : ℕ). back m f s) e

  -- at a loop's end: b is no longer below n
  pub for_end : (a b n : ℕ) (s₀ s : S) → b ≤ n → n ≤ b → s ≡ for a b f s₀ → s ≡ for a n f s₀
  for_end a b n s₀ s h h' e =
      let q : b ≡ n = omega arith in
      rw q at e

  -- at a loop's state: what is left to do from s comes to r, and the turn n - 1 makes t of s
  pub back_step : (n : ℕ) (s t r : S) → 0 < n → back n f s ≡ r → t ≡ f (n - 1) s → back (n - 1) f t ≡ r
  back_step n s t r h e e' = rw e' (rw (back_next n s h) at e)

  pub back_end : (n : ℕ) (s r : S) → n ≤ 0 → back n f s ≡ r → s ≡ r
  unfolding back
  back_end n s r h e =
      let q : n ≡ 0 = omega arith in
      rw q at e

  -- one loop after the other
  pub for_join : (a b : ℕ) (s : S) → a ≤ b → (n : ℕ) → for b (b + n) f (for a b f s) ≡ for a (b + n) f s
  for_join a b s h zero =
      let e : b + 0 ≡ b = omega arith in
      rw e (sym (for_none b (for a b f s)))
  for_join a b s h (suc n) =
      let e : b + suc n ≡ b + n + 1 = omega arith in
      rw (e, for_next b (b + n) (for a b f s) (omega arith), for_next a (b + n) s (omega arith), for_join a b s h n)

  -- a loop after a loop: the turns from b to c, from what the turns from a to b made
  pub for_after : (a b c : ℕ) (s t u : S) → a ≤ b → b ≤ c → t ≡ for a b f s → u ≡ for b c f t → u ≡ for a c f s
  for_after a b c s t u h h' e e' =
      let q : b + (c - b) ≡ c = omega arith in
      let j : _ = for_join a b s h (c - b) in
      e' ∙ (ap (for b c f) e ∙ (rw q at j))

  -- what each turn keeps holds at the end of a loop that counts down
  pub back_all : (P : S → Type 0) → ((i : ℕ) (t : S) → P t → P (f i t)) → (n : ℕ) (s : S) → P s → P (back n f s)
  unfolding back
  back_all P step zero s p = p
  back_all P step (suc n) s p = back_all P step n (f n s) (step n s p)

-- what each turn keeps holds at the end
pub for_all : {S : Type 0} (P : S → Type 0) (f : ℕ → S → S) (a b : ℕ) (s : S) → ((i : ℕ) (t : S) → a ≤ i → i < a + (b - a) → P t → P (f i t)) → P s → P (for a b f s)
unfolding for turns
for_all {S} P f a b s step base = go (b - a) (λ i t u v. step i t u v)
  where
    go : (n : ℕ) → ((i : ℕ) (t : S) → a ≤ i → i < a + n → P t → P (f i t)) → P (turns f a n s)
    go zero st = base
    go (suc n) st = st (a + n) (turns f a n s) (omega arith) (omega arith) (go n (λ i t u v. st i t u (omega arith)))

-- turns that do nothing
pub for_idle : {S : Type 0} (f : ℕ → S → S) (a b : ℕ) (s : S) → ((i : ℕ) (t : S) → a ≤ i → i < b → f i t ≡ t) → for a b f s ≡ s
for_idle f a b s h = for_all (λ t. t ≡ s) f a b s (λ i t u v e. h i t u (omega arith) ∙ e) refl

-- two loops side by side
pub for_both : {S T : Type 0} (R : S → T → Type 0) (f : ℕ → S → S) (g : ℕ → T → T) (a b : ℕ) (s : S) (t : T)
    → ((i : ℕ) (u : S) (v : T) → a ≤ i → i < a + (b - a) → R u v → R (f i u) (g i v)) → R s t → R (for a b f s) (for a b g t)
unfolding for turns
for_both {S} {T} R f g a b s t step base = go (b - a) (λ i u v p q. step i u v p q)
  where
    go : (n : ℕ) → ((i : ℕ) (u : S) (v : T) → a ≤ i → i < a + n → R u v → R (f i u) (g i v)) → R (turns f a n s) (turns g a n t)
    go zero st = base
    go (suc n) st = st (a + n) (turns f a n s) (turns g a n t) (omega arith) (omega arith) (go n (λ i u v p q. st i u v p (omega arith)))

-- two loops whose turns agree
pub for_same : {S : Type 0} (f g : ℕ → S → S) (a b : ℕ) (s : S) → ((i : ℕ) (t : S) → a ≤ i → i < a + (b - a) → f i t ≡ g i t) → for a b f s ≡ for a b g s
for_same {S} f g a b s same = for_both {S = S} {T = S} (λ u v. u ≡ v) f g a b s s (λ i u v p q e. ap (f i) e ∙ same i v p q) refl
