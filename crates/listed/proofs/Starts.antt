-- Pilots in order, with the counts below each symbol, are as the search wants them. Assumes nothing.
use Prim.Native.Nat.{ℕ, ◌+◌, ◌-◌, ◌*◌, ◌≤◌, ◌<◌}
use mathlib.Core.Path.{◌≡◌, refl, sym, ap, ◌∙◌}
use mathlib.Core.List.{List}
use native.Mathlib.Omega.{arith}
use lib.ListN.{length, get_or, take, drop, length-drop}
use lib.Seq.{length-take-le}
use lib.Ieee.{Float}
use Rattle.seq.specs.Tab.{tab}
use Rattle.seq.specs.Tab.Laws.{length_tab, get_d_tab}
use Rattle.load.specs.Pilots.{pilot_at, pilots, Loaded}
use Rattle.load.specs.Load.{nothing}
use Rattle.near.specs.Search.{pilot}
use Rattle.listed.specs.Order.{below}
use Rattle.listed.specs.Listed.{by_all, Ordered, records_in, InLists}
use Rattle.est.specs.declared.combine.Estimate.{Estimate}
use Rattle.listed.specs.declared.single.Ask.{Ask}
use Rattle.listed.proofs.Sorted.{all_below, before_it, after_it, rise}

module _ (pc pg : List ℕ) (pf : List Float) (nc ng : ℕ) (lg : length pg ≡ length pc) (lf : length pf ≡ 3 * length pc) (carriers : nc ≤ 109) (symbols : ng ≤ 1084)
    (o : Ordered nc ng (pilots pc pg pf (length pc))) where
  abbrev n : ℕ
  n = length pc

  abbrev symbol : ℕ → ℕ
  symbol i = get_or pg i 0

  abbrev starts : List ℕ
  starts = tab (ng + 1) (below symbol n)

  long : length (pilots pc pg pf n) ≡ n
  long = length_tab (pilot_at pc pg pf) n

  at_place : (i : ℕ) → i < n → pilot (pilots pc pg pf n) i ≡ pilot_at pc pg pf i
  at_place i h = get_d_tab (pilot_at pc pg pf) n i nothing h

  in_grid : (i : ℕ) → i < n → symbol i < ng
  in_grid i h = rw (at_place i h) at (o.symbol i (omega (arith, long)))

  ascend : (i j : ℕ) → i ≤ j → j < n → symbol i ≤ symbol j
  ascend i j h u = rw (at_place i (omega arith), at_place j u) at (o.order i j h (omega (arith, long)))

  start_at : (g : ℕ) → g ≤ ng → get_or starts g 0 ≡ below symbol n g
  start_at g h = get_d_tab (below symbol n) (ng + 1) g 0 (omega arith)

  pub loaded : Loaded pc pg pf starts nc ng n
  loaded = record {
    long_pc = refl;
    long_pg = lg;
    long_pf = lf;
    long_start = length_tab (below symbol n) (ng + 1);
    small = omega (arith, o.few, long);
    symbols = symbols;
    carriers = carriers;
    carrier = λ i h. rw (at_place i h) at (o.carrier i (omega (arith, long)));
    symbol = in_grid;
    from = λ i h. rw (start_at (symbol i) (omega (arith, in_grid i h))) (after_it symbol (symbol i) n ascend i h (omega arith));
    upto = λ i h. rw (start_at (symbol i + 1) (omega (arith, in_grid i h))) (before_it symbol (symbol i + 1) n ascend i h (omega arith));
    order = λ g g' h h'. rw (start_at g (omega arith), start_at g' h') (rise symbol g g' n h);
    whole = start_at ng (omega arith) ∙ all_below symbol ng n in_grid;
  }

-- the parts of the lent lists that are lent on
module _ (a : Ask) (n : ℕ) (w : List ℕ) (pf : List Float) (k : InLists a n w pf) where
  abbrev pg : List ℕ
  pg = take (2 * n - n) (drop n w)

  half : 2 * n - n ≡ n
  half = omega arith

  pub long_c : length (take n w) ≡ n
  long_c = length-take-le n w (omega (arith, k.in_w))

  pub long_g : length pg ≡ n
  long_g = rw half (length-take-le n (drop n w) (omega (arith, k.in_w, length-drop n w)))

  pub long_f : length (take (3 * n) pf) ≡ 3 * n
  long_f = length-take-le (3 * n) pf k.in_pf

  pub few : n ≤ 118156
  few = omega (arith, k.ordered.few, length_tab (pilot_at (take n w) (take n (drop n w)) (take (3 * n) pf)) n)

  same_records : pilots (take n w) pg (take (3 * n) pf) (length (take n w)) ≡ records_in n w pf
  same_records = rw (half, long_c) refl

  pub of_records : {r : Estimate} → r ≡ by_all a (pilots (take n w) pg (take (3 * n) pf) (length (take n w))) → r ≡ by_all a (records_in n w pf)
  of_records e = rw same_records at e

  pub loaded_in : (start : List ℕ) (m : ℕ) → m ≡ a.setting.ng + 1 → start ≡ tab m (below (λ (i : ℕ). get_or pg i 0) (length pg))
      → Loaded (take n w) pg (take (3 * n) pf) start a.setting.l.nc a.setting.ng (length (take n w))
  loaded_in start m h e =
      let l : length pg ≡ length (take n w) = long_g ∙ sym long_c in
      rw (e, h, l)
      (loaded (take n w) pg (take (3 * n) pf) a.setting.l.nc a.setting.ng l (long_f ∙ ap (λ (m : ℕ). 3 * m) (sym long_c)) k.may.carriers k.may.symbols (rw same_records k.ordered))
