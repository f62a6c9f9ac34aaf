-- Complex numbers at the front of a longer list: a stage that reads and writes no more than these leaves what is past
-- them.
use Prim.Native.Nat.{ℕ, ◌+◌, ◌*◌}
use mathlib.Core.Path.{◌≡◌, sym, ap, ap₂, ◌∙◌}
use mathlib.Core.Bool.{true, false}
use mathlib.Core.List.{List, ◌++◌}
use native.Mathlib.Omega.{arith}
use lib.ListN.{length, get_or, drop, get_or-append}
use lib.Seq.{drop_at, get_or-append-add, get_or-drop}
use lib.Ieee.{Float, nan}
use Rattle.dsp.specs.declared.Complex.{Complex}
use Rattle.dsp.specs.Arithmetic.{complex}
use Rattle.dsp.specs.Flat.{complex_at}
use Rattle.spread.specs.Spreader.{forward_of, inverse_of}
use Rattle.spread.proofs.Pairs.{pairs, length_pairs}
use Rattle.spread.proofs.Spreading.{transform_reads}
use Rattle.equalize.specs.Answer.{Answer}
use Rattle.equalize.specs.Laws.{Alike}

abbrev pub answer : {R : Type 0} → R → List Float → Answer R
answer r z = record { result = r; z = z }

pub at_front : (m : ℕ) (a l : List Float) → length a ≡ 2 * m → Alike m (a ++ l) a
at_front m a l e k h = ap₂ complex (get_or-append a l nan (2 * k) (omega arith)) (get_or-append a l nan (2 * k + 1) (omega arith))

-- a loop that has written those below k finds number k as it was
pub at_next : (z : ℕ → Complex) (k : ℕ) (l : List Float) → complex_at (pairs z k ++ drop (2 * k) l) k ≡ complex_at l k
at_next z k l = let e : 2 * k + 0 ≡ 2 * k = omega arith in ap₂ complex (rw e at (part 0)) (part 1)
  where
    part : (t : ℕ) → get_or (pairs z k ++ drop (2 * k) l) (2 * k + t) nan ≡ get_or l (2 * k + t) nan
    part t =
        ap (λ (n : ℕ). get_or (pairs z k ++ drop (2 * k) l) (n + t) nan) (sym (length_pairs z k))
        ∙ get_or-append-add (pairs z k) (drop (2 * k) l) t nan
        ∙ get_or-drop (2 * k) l t nan

-- a stage f over what the stage before it left: it makes b of a, whatever follows a
pub then : (f : List Float → List Float) (m : ℕ) (a b z₀ z₁ z₂ : List Float) → ((l : List Float) → f (a ++ l) ≡ b) → length a ≡ 2 * m
    → z₁ ≡ a ++ drop (2 * m) z₀ → z₂ ≡ f z₁ ++ drop (2 * m) z₁ → z₂ ≡ b ++ drop (2 * m) z₀
then f m a b z₀ z₁ z₂ makes e e₁ e₂ = rw (e₂, e₁, makes (drop (2 * m) z₀), drop_at a (drop (2 * m) z₀) (2 * m) e)

pub forward_reads : (m : ℕ) (tw a b : List Float) → Alike m a b → forward_of m tw a ≡ forward_of m tw b
unfolding forward_of
forward_reads m tw a b same = transform_reads m tw false a b same

pub inverse_reads : (m : ℕ) (tw a b : List Float) → Alike m a b → inverse_of m tw a ≡ inverse_of m tw b
unfolding inverse_of
inverse_reads m tw a b same = transform_reads m tw true a b same

-- the inverse transform as such a stage
pub inverted : (m : ℕ) (tw a z₀ z₁ z₂ : List Float) → length a ≡ 2 * m → z₁ ≡ a ++ drop (2 * m) z₀ → z₂ ≡ inverse_of m tw z₁ ++ drop (2 * m) z₁
    → z₂ ≡ inverse_of m tw a ++ drop (2 * m) z₀
inverted m tw a z₀ z₁ z₂ e = then (inverse_of m tw) m a (inverse_of m tw a) z₀ z₁ z₂ (λ l. inverse_reads m tw (a ++ l) a (at_front m a l e)) e
