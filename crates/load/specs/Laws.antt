-- Where the pilots of a load stand: what proofs/Starts.antt and proofs/Own.antt prove of them.
use Rattle.std.specs.Prelude.{ℕ, ◌+◌, ◌≤◌, ◌<◌, ◌≡◌, List, ◌++◌, Float}
use Rattle.seq.specs.Cat.{cat}
use Rattle.load.specs.declared.pilot.Pilot.{Pilot}
use Rattle.load.specs.declared.found.Found.{Found}
use Rattle.load.specs.Load.{loaded_at, loaded, start_of}

module _ (nc : ℕ) (grid : List Float) (v : ℕ → ℕ → Found) where
  -- pilot i, of ng symbols
  pub record Sits (ng i : ℕ) (p : Pilot) : Type 0 where
    pub carrier : p.c < nc
    pub symbol : p.g < ng
    pub from : start_of nc grid v p.g ≤ i
    pub upto : i < start_of nc grid v (p.g + 1)

  -- the pilots loaded before carrier c of symbol g
  abbrev pub before : ℕ → ℕ → List Pilot
  before c g = loaded nc grid v g ++ cat c (loaded_at nc grid v g)

  -- what two loaders v and v' load that differ at this cell alone; rest is what symbol g has after it
  pub record Around (c g : ℕ) (v' : ℕ → ℕ → Found) (ng : ℕ) : Type 0 where
    pub rest : List Pilot
    pub after : List Pilot
    pub row : cat nc (loaded_at nc grid v g) ≡ cat c (loaded_at nc grid v g) ++ (loaded_at nc grid v g c ++ rest)
    pub one : loaded nc grid v ng ≡ before c g ++ (loaded_at nc grid v g c ++ after)
    pub other : loaded nc grid v' ng ≡ before c g ++ (loaded_at nc grid v' g c ++ after)
