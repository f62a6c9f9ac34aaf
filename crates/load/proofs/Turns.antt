-- What a row's loop keeps, and how the rows follow each other. Assumes nothing.
use Prim.Native.Nat.{ℕ, ◌+◌, ◌*◌, ◌≤◌, ◌<◌}
use mathlib.Core.Path.{◌≡◌, refl, sym, ap, ◌∙◌}
use mathlib.Core.List.{List, ◌++◌}
use native.Mathlib.Decide.{dec_lt}
use native.Mathlib.Nat.{mul-le-mul}
use native.Mathlib.Omega.{arith}
use lib.ListN.{length, get_or, set, length-append}
use lib.Ieee.{Float}
use lib.Seq.{get_or-set_same, get_or-set_other, get_or-drop}
use Rattle.seq.specs.Cat.{cat}
use Rattle.seq.specs.Cat.Laws.{cat_next}
use Rattle.load.specs.declared.pilot.Pilot.{Pilot}
use Rattle.load.specs.declared.found.Found.{Found}
use Rattle.load.specs.declared.found.Source.{Source}
use Rattle.load.specs.Fit.{Room, places}
use Rattle.load.specs.Load.{loaded_at, loaded, start_of}
use Rattle.load.specs.Work.{Holds, Pushes, Upto}
use Rattle.load.proofs.Starts.{none_more, one_more, loaded_next, start_none, start_next, start_within, room_left}

-- the pilots stand below 2 n
set_past : (n k v : ℕ) (ps : List Pilot) (w : List ℕ) (pf : List Float) → length ps ≤ n → 2 * n ≤ k → Holds n ps w pf → Holds n ps (set w k v) pf
unfolding Holds
set_past n k v ps w pf h h' old i b =
    rw (get_or-drop n (set w k v) i 0, get_or-set_other w k i v 0 (λ e. omega arith), get_or-set_other w k (n + i) v 0 (λ e. omega arith), ← get_or-drop n w i 0) (old i b)

pub places_small : (s : Source) → s.ng ≤ 1084 → s.map.nc ≤ 109 → places s ≤ 118156
places_small s h h' = mul-le-mul h h'

pub room_kept : {s : Source} {grid : List Float} {w w' : List ℕ} {pf pf' : List Float} → length w' ≡ length w → length pf' ≡ length pf → Room s grid w pf → Room s grid w' pf'
room_kept e e' r = record { long_grid = r.long_grid; long_w = rw e r.long_w; long_pf = rw e' r.long_pf }

module _ (s : Source) (grid : List Float) (value : ℕ → ℕ → Found) where
  -- before the turn of carrier c in the row of symbol g
  pub record InRow (g c : ℕ) (w : List ℕ) (pf : List Float) (np : ℕ) : Type 0 where
    pub within : c ≤ s.map.nc
    pub count : np ≡ start_of s.map.nc grid value g + length (cat c (loaded_at s.map.nc grid value g))
    pub holds : Holds (places s) (loaded s.map.nc grid value g ++ cat c (loaded_at s.map.nc grid value g)) w pf
    pub marks : (t : ℕ) → t ≤ g → get_or w (2 * places s + t) 0 ≡ start_of s.map.nc grid value t

  module _ (g : ℕ) where
    abbrev row : ℕ → List Pilot
    row = loaded_at s.map.nc grid value g

    abbrev before : List Pilot
    before = loaded s.map.nc grid value g

    started : start_of s.map.nc grid value g ≡ length before
    unfolding start_of
    started = refl

    pub row_begins : {w : List ℕ} {pf : List Float} → Upto s grid value g w pf → InRow g 0 w pf (get_or w (2 * places s + g) 0)
    row_begins u = record {
      within = omega arith;
      count = u.marks g (omega arith) ∙ (started ∙ (ap length (none_more row before) ∙ (length-append before (cat 0 row) ∙ omega (arith, started))));
      holds = rw (none_more row before) at u.holds;
      marks = u.marks;
    }

    pub row_room : {c np : ℕ} {w : List ℕ} {pf : List Float} → g < s.ng → c < s.map.nc → InRow g c w pf np → np < places s
    row_room {c} hg hc i = omega (arith, i.count, room_left s.map.nc grid value s.ng g c hg hc)

    pub row_turns : {c np np' : ℕ} {w w' : List ℕ} {pf pf' : List Float} → c < s.map.nc → InRow g c w pf np → Pushes (places s) np (row c) w pf w' pf' np' → InRow g (c + 1) w' pf' np'
    row_turns {c} h i p = record {
      within = omega arith;
      count = omega (arith, p.count, i.count, cat_next row c);
      holds = rw (one_more row c before) (p.holds (before ++ cat c row) (length-append before (cat c row) ∙ omega (arith, i.count, started)) i.holds);
      marks = λ t b. p.past (2 * places s + t) (omega arith) ∙ i.marks t b;
    }

    -- all carriers were visited, and the next start is written
    module _ (c np : ℕ) (w : List ℕ) (pf : List Float) (hg : g < s.ng) (room : 2 * places s + s.ng + 1 ≤ length w) (ended : s.map.nc ≤ c) (i₀ : InRow g c w pf np) where
      i : InRow g s.map.nc w pf np
      i = let e : c ≡ s.map.nc = omega (arith, i₀.within, ended) in rw e at i₀

      few : length (loaded s.map.nc grid value (g + 1)) ≤ places s
      unfolding start_of
      few = start_within s.map.nc grid value (g + 1) s.ng (omega arith)

      whole : np ≡ start_of s.map.nc grid value (g + 1)
      whole = i.count ∙ sym (start_next s.map.nc grid value g)

      pub np_within : np ≤ places s
      np_within = omega (arith, whole, start_within s.map.nc grid value (g + 1) s.ng (omega arith))

      pub row_ends : Upto s grid value (g + 1) (set w (2 * places s + g + 1) np) pf
      row_ends = record {
        holds = set_past (places s) (2 * places s + g + 1) np (loaded s.map.nc grid value (g + 1)) w pf few (omega arith) (rw (loaded_next s.map.nc grid value g) i.holds);
        marks = λ t b. go t b (dec_lt t (g + 1));
      }
        where
          go : (t : ℕ) → t ≤ g + 1 → Dec (t < g + 1) → get_or (set w (2 * places s + g + 1) np) (2 * places s + t) 0 ≡ start_of s.map.nc grid value t
          go t b (yes u) = get_or-set_other w (2 * places s + g + 1) (2 * places s + t) np 0 (λ q. omega arith) ∙ i.marks t (omega arith)
          go t b (no u) =
              let q : 2 * places s + t ≡ 2 * places s + g + 1 = omega arith in
              let q' : t ≡ g + 1 = omega arith in
              rw (q, q') (get_or-set_same w (2 * places s + g + 1) np 0 (omega arith) ∙ whole)

  pub rows_begin : (w : List ℕ) (pf : List Float) → 2 * places s < length w → Upto s grid value 0 (set w (2 * places s) 0) pf
  unfolding Holds start_of
  rows_begin w pf h = record {
    holds = λ i b. absurd (omega (arith, start_none s.map.nc grid value));
    marks = λ t b.
        let q : 2 * places s + t ≡ 2 * places s = omega arith in
        let z : t ≡ 0 = omega arith in
        rw (q, z) (get_or-set_same w (2 * places s) 0 0 h ∙ sym (start_none s.map.nc grid value));
  }
