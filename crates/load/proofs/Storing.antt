-- The work lists hold one pilot more, and at the end all of them. Assumes nothing.
use Prim.Native.Nat.{ℕ, ◌+◌, ◌*◌, ◌≤◌, ◌<◌}
use mathlib.Core.Path.{◌≡◌, refl, sym, ◌∙◌}
use mathlib.Core.List.{List, [], ◌∷◌, ◌++◌}
use native.Mathlib.Decide.{dec_lt}
use native.Mathlib.Nat.{mul-le-mul}
use native.Mathlib.Omega.{arith}
use lib.ListN.{length, get_or, set, take, drop, length-append, length-set, length-drop, get_or-append}
use lib.Ieee.{Float, nan}
use lib.Seq.{get_or-set_same, get_or-set_other, get_or-drop, get_or-take, get_or_at, length-take-le}
use Rattle.seq.specs.Tab.Laws.{tab_only}
use Rattle.load.specs.declared.pilot.Pilot.{Pilot}
use Rattle.load.specs.declared.found.Found.{Found}
use Rattle.load.specs.declared.found.Source.{Source}
use Rattle.load.specs.Pilots.{pilot_at}
use Rattle.load.specs.Fit.{Room, places}
use Rattle.load.specs.Load.{nothing, loaded, start_of}
use Rattle.load.specs.Work.{stored_w, stored_pf, Holds, Pushes, Upto, Loads}
use Rattle.load.specs.Laws.{Sits}
use Rattle.load.proofs.Starts.{start_within, starts_ascend, sits}

module _ (n i : ℕ) (p : Pilot) (w : List ℕ) (pf : List Float) (h : i < n) (hw : 2 * n ≤ length w) (hp : 3 * n ≤ length pf) where
  else_w : (j : ℕ) → (j ≡ i → ⊥) → (j ≡ n + i → ⊥) → get_or (stored_w n i p w) j 0 ≡ get_or w j 0
  unfolding stored_w
  else_w j d d' = rw (get_or-set_other, get_or-set_other)

  else_pf : (j : ℕ) → j < 3 * i → get_or (stored_pf i p pf) j nan ≡ get_or pf j nan
  unfolding stored_pf
  else_pf j b =
      let d₀ : j ≡ 3 * i → ⊥ = λ e. omega arith in
      let d₁ : j ≡ 3 * i + 1 → ⊥ = λ e. omega arith in
      let d₂ : j ≡ 3 * i + 2 → ⊥ = λ e. omega arith in
      rw (get_or-set_other, get_or-set_other, get_or-set_other)

  here : pilot_at (stored_w n i p w) (drop n (stored_w n i p w)) (stored_pf i p pf) i ≡ p
  unfolding stored_w stored_pf
  here =
      let pf₁ = set pf (3 * i) p.h.re in
      let pf₂ = set pf₁ (3 * i + 1) p.h.im in
      rw (
        get_or-drop n (set (set w i p.c) (n + i) p.g) i 0,
        get_or-set_other (set w i p.c) (n + i) i p.g 0 (λ e. omega arith),
        get_or-set_same w i p.c 0 (omega arith),
        get_or-set_same (set w i p.c) (n + i) p.g 0 (omega (arith, length-set w i p.c)),
        get_or-set_other pf₂ (3 * i + 2) (3 * i) p.var nan (λ e. omega arith),
        get_or-set_other pf₁ (3 * i + 1) (3 * i) p.h.im nan (λ e. omega arith),
        get_or-set_same pf (3 * i) p.h.re nan (omega arith),
        get_or-set_other pf₂ (3 * i + 2) (3 * i + 1) p.var nan (λ e. omega arith),
        get_or-set_same pf₁ (3 * i + 1) p.h.im nan (omega (arith, length-set pf (3 * i) p.h.re)),
        get_or-set_same pf₂ (3 * i + 2) p.var nan (omega (arith, length-set pf₁ (3 * i + 1) p.h.im, length-set pf (3 * i) p.h.re)),
      )

  held : (ps : List Pilot) → length ps ≡ i → Holds n ps w pf → Holds n (ps ++ (p ∷ [])) (stored_w n i p w) (stored_pf i p pf)
  unfolding Holds
  held ps e old k b = go (dec_lt k i)
    where
      go : Dec (k < i) → pilot_at (stored_w n i p w) (drop n (stored_w n i p w)) (stored_pf i p pf) k ≡ get_or (ps ++ (p ∷ [])) k nothing
      go (yes u) =
          rw (
            get_or-drop n (stored_w n i p w) k 0,
            else_w k (λ q. omega arith) (λ q. omega arith),
            else_w (n + k) (λ q. omega arith) (λ q. omega arith),
            ← get_or-drop n w k 0,
            else_pf (3 * k) (omega arith),
            else_pf (3 * k + 1) (omega arith),
            else_pf (3 * k + 2) (omega arith),
            get_or-append ps (p ∷ []) nothing k (omega arith),
          )
          (old k (omega arith))
      go (no u) =
          let q : k ≡ i = omega (arith, length-append ps (p ∷ [])) in
          rw (q, get_or_at ps p [] nothing i e) here

  put_pushes : Pushes n i (p ∷ []) w pf (stored_w n i p w) (stored_pf i p pf) (i + 1)
  put_pushes = record { count = refl; holds = held; past = λ k b. else_w k (λ e. omega arith) (λ e. omega arith) }

-- what `put` ensures is what `push` does
pub one_pushes : {n i r : ℕ} {p : Pilot} {w w' : List ℕ} {pf pf' : List Float} → i < n → 2 * n ≤ length w → 3 * n ≤ length pf
    → (r ≡ i + 1) × (w' ≡ stored_w n i p w) × (pf' ≡ stored_pf i p pf) → Pushes n i (p ∷ []) w pf w' pf' r
one_pushes {n} {i} {r} {p} {w} {w'} {pf} h hw hp e = rw (e.0, e.1, e.2) (put_pushes n i p w pf h hw hp)

module _ (s : Source) (grid : List Float) (value : ℕ → ℕ → Found) (w : List ℕ) (pf : List Float) where
  abbrev np : ℕ
  np = start_of s.map.nc grid value s.ng

  abbrev symbol : ℕ → ℕ
  symbol i = get_or (take np (drop (places s) w)) i 0

  abbrev starts : List ℕ
  starts = take (s.ng + 1) (drop (2 * places s) w)

  module _ (few : s.map.nc ≤ 109) (symbols : s.ng ≤ 1084) (room : Room s grid w pf) (u : Upto s grid value s.ng w pf) where
    within : np ≤ places s
    within = start_within s.map.nc grid value s.ng s.ng (omega arith)

    start_at : (t : ℕ) → t ≤ s.ng → get_or starts t 0 ≡ start_of s.map.nc grid value t
    start_at t h = get_or-take (s.ng + 1) (drop (2 * places s) w) t 0 (omega arith) ∙ (get_or-drop (2 * places s) w t 0 ∙ u.marks t h)

    long_starts : length starts ≡ s.ng + 1
    long_starts = length-take-le (s.ng + 1) (drop (2 * places s) w) (omega (arith, length-drop (2 * places s) w, room.long_w))

    pilot : (i : ℕ) → i < np → pilot_at (take np w) (take np (drop (places s) w)) (take (3 * np) pf) i ≡ get_or (loaded s.map.nc grid value s.ng) i nothing
    unfolding start_of Holds
    pilot i h =
        rw (get_or-take np w i 0, get_or-take np (drop (places s) w) i 0, get_or-take (3 * np) pf (3 * i) nan (omega arith), get_or-take (3 * np) pf (3 * i + 1) nan (omega arith), get_or-take (3 * np) pf (3 * i + 2) nan (omega arith))
        (u.holds i h)

    sits_at : (i : ℕ) → i < np → Sits s.map.nc grid value s.ng i (pilot_at (take np w) (take np (drop (places s) w)) (take (3 * np) pf) i)
    sits_at i h = rw (pilot i h) (unfold start_of in sits s.map.nc grid value s.ng i h)

    pub all_loaded : Loads s grid value w pf np
    all_loaded = record {
      fit = record {
        long_pc = length-take-le np w (omega (arith, within, room.long_w));
        long_pg = length-take-le np (drop (places s) w) (omega (arith, within, room.long_w, length-drop (places s) w));
        long_pf = length-take-le (3 * np) pf (omega (arith, within, room.long_pf));
        long_start = long_starts;
        small = omega (arith, within, mul-le-mul symbols few);
        symbols = symbols;
        carriers = few;
        carrier = λ i h. (sits_at i h).carrier;
        symbol = λ i h. (sits_at i h).symbol;
        from = λ i h. rw (start_at (symbol i) (omega (arith, (sits_at i h).symbol))) (sits_at i h).from;
        upto = λ i h. rw (start_at (symbol i + 1) (omega (arith, (sits_at i h).symbol))) (sits_at i h).upto;
        order = λ a b h h'. rw (start_at a (omega arith), start_at b h') (starts_ascend s.map.nc grid value a b h);
        whole = start_at s.ng (omega arith);
      };
      same = sym (tab_only _ np nothing (loaded s.map.nc grid value s.ng) (unfold start_of in refl) (λ i h. sym (pilot i h)));
      starts = tab_only (start_of s.map.nc grid value) (s.ng + 1) 0 starts long_starts (λ t h. start_at t (omega arith));
    }
