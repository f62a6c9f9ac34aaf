-- The loaded pilots are in the order that the search counts on. Assumes nothing.
use Prim.Native.Nat.{ℕ, ◌+◌, ◌≤◌}
use mathlib.Core.Path.{◌≡◌}
use mathlib.Core.List.{List}
use native.Mathlib.Omega.{arith}
use lib.ListN.{get_or}
use lib.Ieee.{Float}
use Rattle.seq.specs.Tab.{tab}
use Rattle.seq.specs.Tab.Laws.{get_d_tab}
use Rattle.load.specs.declared.found.Found.{Found}
use Rattle.load.specs.Load.{nothing, loaded, start_of}
use Rattle.load.proofs.Starts.{starts_ascend, sits}
use Rattle.near.specs.Own.{InOrder}

module _ (nc : ℕ) (grid : List Float) (v : ℕ → ℕ → Found) (ng : ℕ) where
  pub start_at : (g : ℕ) → g ≤ ng → get_or (tab (ng + 1) (start_of nc grid v)) g 0 ≡ start_of nc grid v g
  start_at g h = get_d_tab (start_of nc grid v) (ng + 1) g 0 (omega arith)

  pub in_order : InOrder (loaded nc grid v ng) (tab (ng + 1) (start_of nc grid v)) ng
  in_order = record {
    symbol = λ i h. (sits nc grid v ng i h).symbol;
    from = λ i h.
        let s = sits nc grid v ng i h in
        rw (start_at (get_or (loaded nc grid v ng) i nothing).g (omega (arith, s.symbol))) s.from;
    upto = λ i h.
        let s = sits nc grid v ng i h in
        rw (start_at ((get_or (loaded nc grid v ng) i nothing).g + 1) (omega (arith, s.symbol))) s.upto;
    order = λ a b h h'. rw (start_at a (omega arith), start_at b h') (starts_ascend nc grid v a b h);
    whole = unfold start_of in start_at ng (omega arith);
  }
