-- Of the pilots in the work lists those near the cell may be asked of, and they give the estimate by all. Assumes
-- nothing.
use Prim.Native.Nat.{ℕ, ◌+◌, ◌-◌, ◌*◌, ◌≤◌, ◌<◌, min}
use mathlib.Core.Path.{◌≡◌, refl, sym, ◌∙◌}
use mathlib.Core.List.{List}
use native.Mathlib.Omega.{arith}
use lib.ListN.{length, get_or, take, drop}
use lib.Ieee.{Float}
use Rattle.seq.specs.Tab.Laws.{length_tab}
use Rattle.load.specs.declared.pilot.Pilot.{Pilot}
use Rattle.load.specs.declared.pilots.Pilots.{Pilots}
use Rattle.load.specs.Pilots.{pilot_at, listed, OnGrid}
use Rattle.load.specs.Work.{Cut}
use Rattle.load.specs.Fit.{places}
use Rattle.near.specs.Search.{pilot}
use Rattle.near.specs.Own.{InOrder}
use Rattle.near.specs.declared.query.Query.{Query}
use Rattle.near.specs.declared.query.Window.{Window}
use Rattle.near.proofs.Walks.{in_order, carrier_at}
use Rattle.est.specs.declared.combine.Estimate.{Estimate}
use Rattle.model.specs.declared.trial.Setting.{Setting}
use Rattle.model.specs.Values.{window_of}
use Rattle.judge.specs.Cells.{query_of}
use Rattle.refine.specs.declared.settings.Plan.{Plan}
use Rattle.refine.specs.Refine.{fitted_of}
use Rattle.refine.specs.Back.{Agrees}
use Rattle.refine.specs.Whole.{pilots_in, starts_in}
use Rattle.listed.specs.declared.single.Ask.{Ask}
use Rattle.listed.specs.Listed.{default_model, by_all, May, Askable}
use Rattle.listed.proofs.ByAll.{by_all_lem}
use Rattle.channel.specs.Single.{estimate_under, near_of, Rows, InWork}
use Rattle.channel.proofs.Near.{ends, among_inner, inner_at, long_inner, ascend}
use Rattle.channel.proofs.Rows.{few_near}

-- ---- where the window's pilots stand

pub near_spans : (ps : Pilots) (s : Setting) (g : ℕ) → OnGrid ps s.l.nc s.ng → Rows s.l.nc s.ng ps.start.now → s.l.gw ≤ 12 → g < s.ng
    → let m = get_or ps.start.now (g - s.l.gw) 0 in
    let n = get_or ps.start.now (min (g + s.l.gw + 1) s.ng) 0 in
    (m ≤ n) × (n ≤ length ps.c.now) × (n - m ≤ 2725)
near_spans ps s g l r h hg =
    let a = g - s.l.gw in
    let b = min (g + s.l.gw + 1) s.ng in
    (l.order a b (omega arith) (omega arith), omega (arith, l.order b s.ng (omega arith) (omega arith), l.whole), omega (arith, few_near s.l.nc s.ng ps.start.now r g s.l.gw l.carriers h hg))

-- ---- of the parts of the work lists that are lent on

module _ (p : Plan) (np : ℕ) (wf : List Float) (wu : List ℕ) (n : ℕ) (en : n ≡ places p.source) (k : InWork p np wf wu) where
  module _ (ps : Pilots) (cut : Cut wu wf n p.source.ng np ps) where
    pub loaded_in : Agrees p → OnGrid ps p.setting.l.nc p.setting.ng × Rows p.setting.l.nc p.setting.ng ps.start.now
    loaded_in t = rw (cut.carriers, cut.symbols, cut.numbers, cut.starts, en, t.nc, t.ng, k.loaded.long_pc) (k.loaded, k.rows)

    pub near_in : (g : ℕ) (rs : List Pilot) → rs ≡ near_of p.setting (listed ps) ps.start.now g → rs ≡ near_of p.setting (pilots_in p np wf wu) (starts_in p wu) g
    near_in g rs e = rw (cut.carriers, cut.symbols, cut.numbers, cut.starts, en, k.loaded.long_pc) at e

-- ---- what is asked of them

module _ (p : Plan) (np : ℕ) (wf : List Float) (wu : List ℕ) (c g : ℕ) (t : Agrees p) (k : InWork p np wf wu) (hc : c < p.source.map.nc) (hg : g < p.source.ng) where
  abbrev a : Ask
  a = record { setting = p.setting; c = c; g = g }

  abbrev start : List ℕ
  start = starts_in p wu

  abbrev all : List Pilot
  all = pilots_in p np wf wu

  abbrev some : List Pilot
  some = near_of p.setting all start g

  long : length all ≡ np
  long = length_tab (pilot_at (take np wu) (take np (drop (places p.source) wu)) (take (3 * np) wf)) np

  in_all : InOrder all start p.setting.ng
  in_all = rw t.ng (in_order _ _ _ start _ _ np k.loaded)

  symbol : g < p.setting.ng
  symbol = omega (arith, hg, t.ng)

  may : May a
  may = record {
    models = t.models;
    carriers = omega (arith, k.loaded.carriers, t.nc);
    symbols = omega (arith, k.loaded.symbols, t.ng);
    width = t.width;
    some = t.some;
    most = t.most;
    carrier = omega (arith, hc, t.nc);
    symbol = symbol;
  }

  abbrev w' : Window
  w' = window_of p.setting.l p.setting.ng p.setting.k

  abbrev q' : Query
  q' = query_of (fitted_of p.setting default_model) c g

  abbrev from : ℕ
  from = get_or start (g - p.setting.l.gw) 0

  long_some : length some ≡ get_or start (min (g + p.setting.l.gw + 1) p.setting.ng) 0 - from
  unfolding near_of
  long_some = long_inner q' w' all start in_all symbol

  few : length some ≤ np
  few = omega (arith, long_some, ends q' w' all start in_all symbol, long)

  at : (i : ℕ) → i < length some → (from + i < length all) × (pilot some i ≡ pilot all (from + i))
  unfolding near_of
  at i u = (omega (arith, long_some, ends q' w' all start in_all symbol), inner_at q' w' all start in_all symbol i (omega (arith, long_some)))

  pub askable : Askable a some (length wu) (length wf)
  askable = record {
    may = may;
    ordered = record {
      few = omega (arith, few, k.few, k.small);
      carrier = λ i u.
          rw ((at i u).1, carrier_at _ _ _ start _ _ np k.loaded (from + i)) (omega (arith, k.loaded.carrier (from + i) (omega (arith, (at i u).0, long)), t.nc));
      symbol = λ i u. rw (at i u).1 (in_all.symbol (from + i) (at i u).0);
      order = λ i j u v. rw ((at i (omega arith)).1, (at j v).1) (ascend q' w' all start in_all symbol (from + i) (from + j) (omega arith) (at j v).0);
    };
    in_w = omega (arith, few, k.few, k.in_wu);
    in_pf = omega (arith, few, k.few, k.in_wf);
  }

  same_estimate : by_all a some ≡ estimate_under p.setting all start c g
  unfolding estimate_under
  same_estimate = sym (by_all_lem a may all start in_all (omega (arith, long, k.few, k.small)) ∙ inner)
    where
      inner : by_all a all ≡ by_all a some
      inner = unfold by_all near_of fitted_of in rw (among_inner q' w' all start in_all symbol) refl

  pub estimated : {r : Estimate} (rs : List Pilot) → rs ≡ some → r ≡ by_all a rs → r ≡ estimate_under p.setting all start c g
  estimated rs e h = (rw e at h) ∙ same_estimate
