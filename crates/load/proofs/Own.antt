-- The pilot of one cell: what is loaded around it, and that `pilot_index` finds it there. Assumes nothing.
use Prim.Native.Nat.{ℕ, zero, suc, ◌+◌, ◌-◌, ◌*◌, ◌<◌}
use mathlib.Core.Path.{◌≡◌, refl, sym, ap, ◌∙◌}
use mathlib.Core.Bool.{Bool, true, false}
use mathlib.Core.List.{List, [], ◌∷◌, ◌++◌, append_assoc}
use native.Mathlib.Omega.{arith}
use lib.ListN.{length, get_or, length-append, get_or-append}
use lib.Ieee.{Float}
use lib.Seq.{get_or-append-add, get_or_at}
use borrow.Author.Tests.{eq-eqb, ne_eqb}
use Rattle.seq.specs.Cat.{cat}
use Rattle.seq.specs.Cat.Laws.{cat-same, cat_between}
use Rattle.dsp.specs.declared.Complex.{Complex}
use Rattle.load.specs.declared.pilot.Pilot.{Pilot}
use Rattle.load.specs.declared.found.Found.{Found}
use Rattle.load.specs.declared.found.Found.TheVariants.{Soft}
use Rattle.load.specs.Load.{sample_at, pilot_of, pushed, nothing, find_in, loaded_at, loaded_row, loaded, start_of, pilot_index}
use Rattle.load.specs.Laws.{before, Around}
use Rattle.load.proofs.Starts.{carrier_below, start_next}

-- the first of which t holds
find_first : (t : ℕ → Bool) (m n i : ℕ) → m < n → ((k : ℕ) → k < m → t (i + k) ≡ false) → t (i + m) ≡ true → find_in n i t ≡ i + m
unfolding find_in
find_first t m zero i h no_one here = absurd (omega arith)
find_first t zero (suc n) i h no_one here =
    let e : i + 0 ≡ i = omega arith in
    rw (rw e at here) (sym e)
find_first t (suc m) (suc n) i h no_one here =
    let e : i + 0 ≡ i = omega arith in
    let e' : suc i + m ≡ i + suc m = omega arith in
    let f : t i ≡ false = rw e at (no_one 0 (omega arith)) in
    rw f (find_first t m n (suc i) (omega arith) (λ k u. let q : suc i + k ≡ i + suc k = omega arith in rw q (no_one (suc k) (omega arith))) (rw e' here) ∙ e')

regroup : (x y m r z : List Pilot) → x ++ ((y ++ (m ++ r)) ++ z) ≡ (x ++ y) ++ (m ++ (r ++ z))
regroup x y m r z = simp append_assoc

module _ (nc : ℕ) (grid : List Float) (v : ℕ → ℕ → Found) (c g : ℕ) (hc : c < nc) (ng : ℕ) (hg : g < ng) where
  abbrev at : ℕ → List Pilot
  at = loaded_at nc grid v g

  pub around : (v' : ℕ → ℕ → Found)
      → ((k : ℕ) → k < nc → (k ≡ c → ⊥) → v k g ≡ v' k g) → ((k i : ℕ) → k < ng → (k ≡ g → ⊥) → i < nc → v i k ≡ v' i k)
      → Around nc grid v c g v' ng
  unfolding loaded loaded_row
  around v' here else =
      let s = cat_between (loaded_row nc grid v) (loaded_row nc grid v') g ng hg
      (λ k u d. cat-same nc (loaded_at nc grid v k) (loaded_at nc grid v' k) (λ i b. ap (pushed i k (sample_at grid (k * nc + i))) (else k i u d b))) in
      let t = cat_between at (loaded_at nc grid v' g) c nc hc (λ k u d. ap (pushed k g (sample_at grid (g * nc + k))) (here k u d)) in
      record {
        rest = t.after;
        after = t.after ++ s.after;
        row = t.one;
        one = s.one ∙ rw t.one (regroup (cat g (loaded_row nc grid v)) (cat c at) (at c) t.after s.after);
        other = s.other ∙ rw t.other (regroup (cat g (loaded_row nc grid v)) (cat c at) (loaded_at nc grid v' g c) t.after s.after);
      }

  -- with one loader
  alone : Around nc grid v c g v ng
  alone = around v (λ k u d. refl) (λ k i u d b. refl)

  pub length_before : length (before nc grid v c g) ≡ start_of nc grid v g + length (cat c at)
  unfolding start_of
  length_before = length-append (loaded nc grid v g) (cat c at)

  -- the pilots of the symbol that stand before it
  earlier : (k : ℕ) → k < length (cat c at) → (get_or (loaded nc grid v ng) (start_of nc grid v g + k) nothing).c < c
  unfolding start_of
  earlier k u =
      rw (
        alone.one,
        get_or-append (before nc grid v c g) (at c ++ alone.after) nothing (length (loaded nc grid v g) + k) (omega (arith, length_before)),
        get_or-append-add (loaded nc grid v g) (cat c at) k nothing,
      )
      (carrier_below nc grid v g c k u)

  -- a cell that is found soft has its pilot there
  pub own_index_lem : (x : Complex) (var : Float) → v c g ≡ Soft x var → pilot_index nc grid v ng c g ≡ start_of nc grid v g + length (cat c at)
  unfolding pilot_index pilot_of
  own_index_lem x var e =
      let p = pilot_of c g (sample_at grid (g * nc + c)) x var in
      let here : at c ≡ p ∷ [] = ap (pushed c g (sample_at grid (g * nc + c))) e in
      let row : cat nc at ≡ cat c at ++ (p ∷ alone.rest) = alone.row ∙ ap (λ (l : List Pilot). cat c at ++ (l ++ alone.rest)) here in
      let all : loaded nc grid v ng ≡ before nc grid v c g ++ (p ∷ alone.after) = alone.one ∙ ap (λ (l : List Pilot). before nc grid v c g ++ (l ++ alone.after)) here in
      let m = start_of nc grid v g + length (cat c at) in
      find_first _ (length (cat c at)) (start_of nc grid v (g + 1) - start_of nc grid v g) (start_of nc grid v g)
      (omega (arith, start_next nc grid v g, ap length row ∙ length-append (cat c at) (p ∷ alone.rest)))
      (λ k u. ne_eqb (get_or (loaded nc grid v ng) (start_of nc grid v g + k) nothing).c c (λ z. omega (arith, z, earlier k u)))
      (eq-eqb (get_or (loaded nc grid v ng) m nothing).c c (rw (all, get_or_at (before nc grid v c g) p alone.after nothing m length_before)))
