-- To leave a cell's own pilot out of the list is to load the burst with that cell blank. Assumes nothing.
use Prim.Native.Nat.{ℕ, ◌+◌, ◌*◌, ◌≤◌, ◌<◌}
use mathlib.Core.Path.{◌≡◌, refl, sym, ap, ◌∙◌}
use mathlib.Core.Bool.{Bool, true, false, cond, ◌&&◌}
use mathlib.Core.List.{List, ◌++◌}
use native.Mathlib.Omega.{arith}
use lib.Dec.{eqb}
use lib.Ieee.{Float}
use borrow.Author.Tests.{eq-eqb, ne_eqb, eqb-false}
use Rattle.seq.specs.Cat.Laws.{cat-same}
use Rattle.load.specs.declared.pilot.Pilot.{Pilot}
use Rattle.load.specs.declared.found.Found.{Found}
use Rattle.load.specs.declared.found.Found.TheVariants.{Known, Soft, Blank}
use Rattle.load.specs.Load.{sample_at, pilot_of, pushed, nowhere, loaded_at, loaded_row, loaded, pilot_index}
use Rattle.load.specs.Laws.{before, Around}
use Rattle.load.proofs.Starts.{length_loaded}
use Rattle.load.proofs.Own.{around, length_before, own_index_lem}
use Rattle.near.specs.Own.{remove_at}
use Rattle.near.proofs.Independent.{remove_at_past, remove_at_between}
use Rattle.judge.specs.Cells.{is_some}

-- what is found, but for carrier c of symbol g
abbrev pub without : ℕ → ℕ → (ℕ → ℕ → Found) → ℕ → ℕ → Found
without c g v k i = cond (eqb i g && eqb k c) Blank (v k i)

-- soft or blank
abbrev pub Unknown : Found → Type 0
Unknown (Known x v) = ⊥
Unknown (Soft x v) = Unit {0}
Unknown Blank = Unit {0}

module _ (nc : ℕ) (grid : List Float) (v : ℕ → ℕ → Found) (c g : ℕ) (hc : c < nc) (ng : ℕ) (hg : g < ng) where
  blanked : Around nc grid v c g (without c g v) ng
  blanked =
      around nc grid v c g hc ng hg (without c g v)
      (λ k h d. rw (eq-eqb g g refl, ne_eqb k c d)) (λ i k h d h'. rw (ne_eqb i g d))

  abbrev left : List Pilot
  left = before nc grid v c g ++ blanked.after

  -- what is loaded with the cell blank, and what is loaded, by what is found at the cell
  loaded_blank : loaded nc grid (without c g v) ng ≡ left
  loaded_blank = blanked.other ∙ rw (eq-eqb g g refl, eq-eqb c c refl)

  loaded_with : (f : Found) → v c g ≡ f → loaded nc grid v ng ≡ before nc grid v c g ++ (pushed c g (sample_at grid (g * nc + c)) f ++ blanked.after)
  loaded_with f e = blanked.one ∙ rw e

  pub own_gone : ng * nc ≤ nowhere → Unknown (v c g) → remove_at (cond (is_some (v c g)) (pilot_index nc grid v ng c g) nowhere) (loaded nc grid v ng) ≡ loaded nc grid (without c g v) ng
  own_gone room = go (v c g) refl
    where
      go : (f : Found) → v c g ≡ f → Unknown f → remove_at (cond (is_some f) (pilot_index nc grid v ng c g) nowhere) (loaded nc grid v ng) ≡ loaded nc grid (without c g v) ng
      go (Known x var) e u = absurd u
      go (Soft x var) e u =
          rw (own_index_lem nc grid v c g hc ng hg x var e, ← length_before nc grid v c g hc ng hg, loaded_with (Soft x var) e, loaded_blank)
          (remove_at_between (before nc grid v c g) (pilot_of c g (sample_at grid (g * nc + c)) x var) blanked.after)
      go Blank e u = remove_at_past nowhere (loaded nc grid v ng) (omega (arith, length_loaded nc grid v ng)) ∙ (loaded_with Blank e ∙ sym loaded_blank)

-- two loaders that agree but there
pub blank_same : (nc : ℕ) (grid : List Float) (v v' : ℕ → ℕ → Found) (c g ng : ℕ) → ((k i : ℕ) → i < ng → (i ≡ g → k ≡ c → ⊥) → v k i ≡ v' k i)
    → loaded nc grid (without c g v) ng ≡ loaded nc grid (without c g v') ng
unfolding loaded loaded_row
blank_same nc grid v v' c g ng same =
    cat-same ng (loaded_row nc grid (without c g v)) (loaded_row nc grid (without c g v'))
    (λ i h. cat-same nc (loaded_at nc grid (without c g v) i) (loaded_at nc grid (without c g v') i)
    (λ k h'. ap (pushed k i (sample_at grid (i * nc + k))) (go k i h (eqb i g) (eqb k c) refl refl)))
  where
    go : (k i : ℕ) → i < ng → (t t' : Bool) → eqb i g ≡ t → eqb k c ≡ t' → cond (t && t') Blank (v k i) ≡ cond (t && t') Blank (v' k i)
    go k i h true true e e' = refl
    go k i h true false e e' = same k i h (λ z z'. eqb-false k c e' z')
    go k i h false t' e e' = same k i h (λ z z'. eqb-false i g e z)
