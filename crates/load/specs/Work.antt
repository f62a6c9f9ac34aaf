-- How the work lists hold the pilots: with n places, carriers at 0.., symbols at n.., starts at 2 n..; three numbers
-- a pilot.
use Rattle.std.specs.Prelude.{ℕ, ◌+◌, ◌*◌, ◌≤◌, ◌<◌, ◌≡◌, List, ◌++◌, length, get_or, set, take, drop, Float}
use Rattle.seq.specs.Tab.{tab}
use Rattle.load.specs.declared.pilot.Pilot.{Pilot}
use Rattle.load.specs.declared.found.Found.{Found}
use Rattle.load.specs.declared.found.Source.{Source}
use Rattle.load.specs.declared.pilots.Pilots.{Pilots}
use Rattle.load.specs.Pilots.{pilot_at, pilots, Loaded}
use Rattle.load.specs.Fit.{places}
use Rattle.load.specs.Load.{nothing, loaded, start_of}

-- pilot i put in its places
unfoldable pub stored_w : ℕ → ℕ → Pilot → List ℕ → List ℕ
stored_w n i p w = set (set w i p.c) (n + i) p.g

unfoldable pub stored_pf : ℕ → Pilot → List Float → List Float
stored_pf i p pf = set (set (set pf (3 * i) p.h.re) (3 * i + 1) p.h.im) (3 * i + 2) p.var

-- np pilots of them as they are lent
pub record Cut (w : List ℕ) (pf : List Float) (n ng np : ℕ) (ps : Pilots) : Type 0 where
  pub carriers : ps.c.now ≡ take np w
  pub symbols : ps.g.now ≡ take np (drop n w)
  pub numbers : ps.f.now ≡ take (3 * np) pf
  pub starts : ps.start.now ≡ take (ng + 1) (drop (2 * n) w)

-- the first pilots that they hold are ps
unfoldable pub Holds : ℕ → List Pilot → List ℕ → List Float → Type 0
Holds n ps w pf = (i : ℕ) → i < length ps → pilot_at w (drop n w) pf i ≡ get_or ps i nothing

-- after i pilots those of qs were put, and what stands from 2 n on was kept; there are r then
pub record Pushes (n i : ℕ) (qs : List Pilot) (w₀ : List ℕ) (pf₀ : List Float) (w : List ℕ) (pf : List Float) (r : ℕ) : Type 0 where
  pub count : r ≡ i + length qs
  pub holds : (ps : List Pilot) → length ps ≡ i → Holds n ps w₀ pf₀ → Holds n (ps ++ qs) w pf
  pub past : (k : ℕ) → 2 * n ≤ k → get_or w k 0 ≡ get_or w₀ k 0

module _ (s : Source) (grid : List Float) (value : ℕ → ℕ → Found) where
  -- the symbols below g are loaded, and their starts are known
  pub record Upto (g : ℕ) (w : List ℕ) (pf : List Float) : Type 0 where
    pub holds : Holds (places s) (loaded s.map.nc grid value g) w pf
    pub marks : (t : ℕ) → t ≤ g → get_or w (2 * places s + t) 0 ≡ start_of s.map.nc grid value t

  -- all are: np pilots, with the lists as the search reads them
  pub record Loads (w : List ℕ) (pf : List Float) (np : ℕ) : Type 0 where
    pub fit : Loaded (take np w) (take np (drop (places s) w)) (take (3 * np) pf) (take (s.ng + 1) (drop (2 * places s) w)) s.map.nc s.ng np
    pub same : pilots (take np w) (take np (drop (places s) w)) (take (3 * np) pf) np ≡ loaded s.map.nc grid value s.ng
    pub starts : take (s.ng + 1) (drop (2 * places s) w) ≡ tab (s.ng + 1) (start_of s.map.nc grid value)
