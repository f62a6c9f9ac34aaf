-- The estimate of lent pilots may be asked for, and is the one by all of them. Assumes nothing.
use Rattle.std.proofs.Common.{◌≡◌, ◌∙◌, List, length, ap, arith}
use lib.Ieee.{Float}
use Rattle.seq.specs.Tab.Laws.{length_tab}
use Rattle.load.specs.Pilots.{pilot_at, listed, OnGrid}
use Rattle.load.specs.declared.pilots.Pilots.{Pilots}
use Rattle.near.proofs.Walks.{in_order}
use Rattle.est.specs.Estimate.{estimate_all}
use Rattle.est.specs.declared.combine.Estimate.{Estimate}
use Rattle.model.specs.Values.{window_of}
use Rattle.judge.specs.declared.estimates.Fitted.{Fitted}
use Rattle.judge.specs.Cells.{query_of}
use Rattle.refine.specs.Refine.{fitted_of, carrier_table, symbol_table}
use Rattle.listed.specs.Listed.{default_model, by_all, May}
use Rattle.listed.specs.declared.single.Ask.{Ask}
use Rattle.listed.proofs.ByAll.{by_all_lem}

module _ (a : Ask) (f : Fitted) (ef : f ≡ fitted_of a.setting default_model) where
  pub window_is : f.w ≡ window_of a.setting.l a.setting.ng a.setting.k
  unfolding fitted_of
  window_is = ap (λ (f : Fitted). f.w) ef

  pub estimated : (ps : Pilots) (rf rt : List Float) {r : Estimate} → May a → OnGrid ps a.setting.l.nc a.setting.ng
      → rf ≡ carrier_table a.setting default_model → rt ≡ symbol_table a.setting default_model
      → r ≡ estimate_all a.setting.p_h rf rt (query_of f a.c a.g) f.w (listed ps) ps.start.now f.scale → r ≡ by_all a (listed ps)
  estimated ps rf rt m l er et e =
      (rw (ef, er, et) at e)
      ∙ by_all_lem a m (listed ps) ps.start.now (in_order _ _ _ _ _ _ (length ps.c.now) l)
      (omega (arith, l.small, length_tab (pilot_at ps.c.now ps.g.now ps.f.now) (length ps.c.now)))
