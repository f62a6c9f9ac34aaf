-- A search by number: two tests that agree, and a search that walks the list. Assumes nothing.
use Prim.Native.Nat.{ℕ, zero, suc, ◌+◌, ◌-◌, ◌≤◌, ◌<◌}
use mathlib.Core.Path.{◌≡◌, refl, sym, ap, ap₂, ◌∙◌}
use mathlib.Core.List.{List, [], ◌∷◌}
use mathlib.Core.Bool.{Bool, true, false, cond}
use native.Mathlib.Omega.{arith}
use lib.Dec.{eqb}
use lib.ListN.{length, take, drop, get_or, length-drop}
use lib.Seq.{length-take-le, get_or-take, get_or-drop}
use Rattle.std.specs.Prelude.{Option, Some, unwrap_or}
use Rattle.std.specs.Option.{option_map}
use Rattle.std.specs.List.{position_from}
use Rattle.load.specs.Load.{nowhere, find_in}
use Rattle.judge.specs.Cells.{index_in}

pub find_same : (n i : ℕ) (t u : ℕ → Bool) → ((k : ℕ) → k < i + n → t k ≡ u k) → find_in n i t ≡ find_in n i u
unfolding find_in
find_same zero i t u same = refl
find_same (suc n) i t u same = ap₂ (λ (b : Bool) (r : ℕ). cond b i r) (same i (omega arith)) (find_same n (suc i) t u (λ k h. same k (omega arith)))

-- the place in a part of a list, from lo on
place_from : (t p : ℕ → Bool) (xs : List ℕ) (lo i : ℕ) → ((k : ℕ) → k < length xs → t (lo + (i + k)) ≡ p (get_or xs k 0))
    → unwrap_or (option_map (λ j. lo + j) (position_from p i xs)) nowhere ≡ find_in (length xs) (lo + i) t
unfolding find_in
place_from t p [] lo i h = refl
place_from t p (x ∷ xs) lo i h =
    let z : lo + (i + 0) ≡ lo + i = omega arith in
    let s : lo + (i + 1) ≡ suc (lo + i) = omega arith in
    rw (rw z at (h 0 (omega arith)))
    (go (p x) (rw s at (place_from t p xs lo (i + 1) (λ k b. let e : lo + (i + 1 + k) ≡ lo + (i + suc k) = omega arith in rw e (h (suc k) (omega arith))))))
  where
    go : (b : Bool) → unwrap_or (option_map (λ j. lo + j) (position_from p (i + 1) xs)) nowhere ≡ find_in (length xs) (suc (lo + i)) t
        → unwrap_or (option_map (λ j. lo + j) (cond b (Some i) (position_from p (i + 1) xs))) nowhere ≡ cond b (lo + i) (find_in (length xs) (suc (lo + i)) t)
    go true e = refl
    go false e = e

pub placed_at : (carriers start : List ℕ) (c g lo hi : ℕ) → lo ≡ get_or start g 0 → hi ≡ get_or start (g + 1) 0 → lo ≤ hi → hi ≤ length carriers
    → (r : Option ℕ) → r ≡ position_from (λ p. eqb p c) 0 (take (hi - lo) (drop lo carriers))
    → unwrap_or (option_map (λ j. lo + j) r) nowhere ≡ index_in (λ i. get_or carriers i 0) start c g
placed_at carriers start c g lo hi el eh b b' r e =
    let n : length (take (hi - lo) (drop lo carriers)) ≡ hi - lo = length-take-le (hi - lo) (drop lo carriers) (omega (arith, length-drop lo carriers)) in
    let z : lo + 0 ≡ lo = omega arith in
    rw (e, ← el, ← eh) (rw (n, z) at
    (place_from (λ k. eqb (get_or carriers k 0) c) (λ p. eqb p c) (take (hi - lo) (drop lo carriers)) lo 0
    (λ k h.
    let y : 0 + k ≡ k = omega arith in
    rw y (ap (λ x. eqb x c) (sym (get_or-take (hi - lo) (drop lo carriers) k 0 (omega (arith, n)) ∙ get_or-drop lo carriers k 0))))))
