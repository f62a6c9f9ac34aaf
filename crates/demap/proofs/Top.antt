-- The largest metric of a half is below none of them, and is one of them unless it is -infinity. Assumes nothing.
use Prim.Native.Nat.{ℕ, zero, suc, ◌+◌, ◌^◌, ◌<◌}
use mathlib.Core.Path.{◌≡◌, refl, sym, ap, ◌∙◌, subst}
use mathlib.Core.Bool.{Bool, true, false, not, cond, true≢false, ◌||◌}
use mathlib.Core.List.{List}
use mathlib.Core.Logic.{◌⊎◌, inl, inr}
use native.Mathlib.Nat.{eq-or-lt_of_le}
use native.Mathlib.Numerals.{add-one}
use native.Mathlib.Omega.{arith}
use lib.Dec.{T, eqb}
use lib.Ieee.{Float, lt, le, eq, ne, is_nan}
use lib.Ieee.Compare.{differs_from_itself}
use Rattle.seq.specs.Loop.{for}
use Rattle.seq.specs.Loop.Laws.{for_none, for_next}
use Rattle.ieee.specs.Num.{◌⊟◌}
use Rattle.ieee.specs.Order.{max_of}
use Rattle.ieee.proofs.Orders.{max_laws, le_number}
use Rattle.elementary.specs.Domain.{Number, NotAbove}
use Rattle.soft.specs.Soft.{bit_of}
use Rattle.demap.specs.Demap.{at, lowest, top_turn, top_of}
use Rattle.ieee.proofs.Transitive.{not_below}
use Rattle.demap.proofs.Difference.{not_above}

-- what each turn makes of what held before it
pub for_each : {S : Type 0} (P : ℕ → S → Type 0) (f : ℕ → S → S) (n : ℕ) (s : S) → P 0 s → ((i : ℕ) (t : S) → i < n → P i t → P (i + 1) (f i t)) → P n (for 0 n f s)
for_each P f zero s base step = subst (P 0) (for_none f 0 s) base
for_each P f (suc n) s base step =
    rw (← add-one n)
    (subst (P (n + 1)) (sym (for_next f 0 n s (omega arith))) (step n (for 0 n f s) (omega arith) (for_each P f n s base (λ i t h. step i t (omega arith)))))

-- one of the first i, or the next
pub last : (i k : ℕ) → k < i + 1 → (k ≡ i) ⊎ (k < i)
last i k h = eq-or-lt_of_le (omega arith)

max_number : (x y : Float) → Number x → Number (max_of x y)
unfolding max_of le is_nan
max_number x y h = go (lt x y) refl (ne x x) refl
  where
    go : (b : Bool) → lt x y ≡ b → (c : Bool) → ne x x ≡ c → Number (cond b y (cond c y x))
    go true e c e' = (le_number x y (subst (λ (t : Bool). T (t || eq x y)) (sym e) tt)).1
    go false e true e' = absurd (subst (λ (z : Float). Number z) (differs_from_itself x (subst T (sym e') tt)) h)
    go false e false e' = h

max_either : (x y : Float) → (max_of x y ≡ x) ⊎ (max_of x y ≡ y)
unfolding max_of
max_either x y = go (lt x y) (ne x x)
  where
    go : (b c : Bool) → (cond b y (cond c y x) ≡ x) ⊎ (cond b y (cond c y x) ≡ y)
    go true c = inr refl
    go false true = inr refl
    go false false = inl refl

-- the label k has the bit
abbrev pub Own : ℕ → ℕ → ℕ → ℕ → Type 0
Own bps b bit k = eqb (bit_of bps k b) bit ≡ true

-- m is one of the first n, or was never raised
abbrev pub Taken : List Float → ℕ → ℕ → ℕ → ℕ → Float → Type 0
Taken d bps b bit n m = (m ≡ lowest) ⊎ ((j : ℕ) × (j < n) × Own bps b bit j × (m ≡ at d j))

-- what the turns below n have found
pub record Found (d : List Float) (bps b bit n : ℕ) (m : Float) : Type 0 where
  pub number : Number m
  pub most : (k : ℕ) → k < n → Own bps b bit k → T (not (lt m (at d k)))
  pub taken : Taken d bps b bit n m

module _ (d : List Float) (bps b bit : ℕ) where
  more : (i : ℕ) (m : Float) → Found d bps b bit i m → Found d bps b bit (i + 1) (top_turn d bps b bit i m)
  unfolding top_turn
  more i m f = go (eqb (bit_of bps i b) bit) refl
    where
      x : Float
      x = at d i

      later : (z : Float) → z ≡ m → Taken d bps b bit (i + 1) z
      later z e = elim f.taken [ inl q ↦ inl (e ∙ q) | inr q ↦ inr (q.0, omega arith, q.2, e ∙ q.3) ]

      go : (o : Bool) → eqb (bit_of bps i b) bit ≡ o → Found d bps b bit (i + 1) (cond o (max_of m x) m)
      go true e = record {
        number = max_number m x f.number;
        most = λ k h o. elim (last i k h) [ inl q ↦ rw q (max_laws.second m x) | inr q ↦ not_below m (max_of m x) (at d k) f.number (f.most k q o) (max_laws.first m x) ];
        taken = elim (max_either m x) [ inl q ↦ later (max_of m x) q | inr q ↦ inr (i, omega arith, e, q) ];
      }
      go false e = record {
        number = f.number;
        most = λ k h o. elim (last i k h) [ inl q ↦ absurd (true≢false (sym o ∙ ap (λ (j : ℕ). eqb (bit_of bps j b) bit) q ∙ e)) | inr q ↦ f.most k q o ];
        taken = later m refl;
      }

  pub found : Found d bps b bit (2 ^ bps) (top_of d bps b bit)
  unfolding top_of is_nan
  found =
      for_each (Found d bps b bit) (top_turn d bps b bit) (2 ^ bps) lowest
      (record { number = tt; most = λ k h o. absurd (omega arith); taken = inl refl })
      (λ i m h f. more i m f)

  -- so exp may be asked for what is left of each
  pub asked : (k : ℕ) → k < 2 ^ bps → Own bps b bit k → NotAbove (at d k ⊟ top_of d bps b bit)
  asked k h o = not_above (at d k) (top_of d bps b bit) (found.most k h o)
