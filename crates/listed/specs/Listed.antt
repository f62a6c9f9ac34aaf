-- The single estimate from a list of pilot records: est.rs, `estimate`, by all of them, under the model that
-- `Estimator::new` sets.
use Rattle.std.specs.Prelude.{ℕ, ◌*◌, ◌≤◌, ◌<◌, List, length, take, drop, Float}
use Rattle.ieee.specs.Num.{◌⊠◌, one32}
use Rattle.load.specs.declared.pilot.Pilot.{Pilot}
use Rattle.load.specs.Pilots.{pilots}
use Rattle.near.specs.Search.{pilot}
use Rattle.near.specs.Own.{among}
use Rattle.est.specs.Estimate.{estimate_of}
use Rattle.est.specs.declared.combine.Estimate.{Estimate}
use Rattle.model.specs.declared.select.Model.{Model}
use Rattle.model.specs.Values.{FitModels}
use Rattle.judge.specs.Cells.{query_of}
use Rattle.refine.specs.Refine.{fitted_of, carrier_table, symbol_table}
use Rattle.listed.specs.declared.single.Ask.{Ask}

-- default_model(l), which is (l.fd[2], l.tm[2]) of the robust grid and has the indices 3 3; mse_scale: 1.0
abbrev pub default_model : Model
default_model = record { fd = 3; tm = 3; scale = one32 }

-- by the choice among the whole list, wherever its symbols begin; proofs/ByAll.antt shows that it is est.rs's
unfoldable pub by_all : Ask → List Pilot → Estimate
by_all a ps =
    let s = a.setting in
    let f = fitted_of s default_model in
    let q = query_of f a.c a.g in
    let e = estimate_of s.p_h (carrier_table s default_model) (symbol_table s default_model) q f.w (among q f.w ps) in
    record { h = e.h; mse = e.mse ⊠ f.scale }

-- a layout's setting, and a cell of its grid
pub record May (a : Ask) : Type 0 where
  pub models : FitModels a.setting.l
  pub carriers : a.setting.l.nc ≤ 109
  pub symbols : a.setting.ng ≤ 1084
  pub width : a.setting.l.gw ≤ 12
  pub some : 1 ≤ a.setting.k
  pub most : a.setting.k ≤ 40
  pub carrier : a.c < a.setting.l.nc
  pub symbol : a.g < a.setting.ng

-- pilots of the grid, in order of symbol
pub record Ordered (nc ng : ℕ) (ps : List Pilot) : Type 0 where
  pub few : length ps ≤ 118156
  pub carrier : (i : ℕ) → i < length ps → (pilot ps i).c < nc
  pub symbol : (i : ℕ) → i < length ps → (pilot ps i).g < ng
  pub order : (i j : ℕ) → i ≤ j → j < length ps → (pilot ps i).g ≤ (pilot ps j).g

-- what an estimate may count on, where lists of this many words and floats are lent
pub record Askable (a : Ask) (ps : List Pilot) (words floats : ℕ) : Type 0 where
  pub may : May a
  pub ordered : Ordered a.setting.l.nc a.setting.ng ps
  pub in_w : 2 * length ps ≤ words
  pub in_pf : 3 * length ps ≤ floats

-- n pilots in the lent lists
abbrev pub records_in : ℕ → List ℕ → List Float → List Pilot
records_in n w pf = pilots (take n w) (take n (drop n w)) (take (3 * n) pf) n

-- of which the same may be asked
pub record InLists (a : Ask) (n : ℕ) (w : List ℕ) (pf : List Float) : Type 0 where
  pub may : May a
  pub ordered : Ordered a.setting.l.nc a.setting.ng (records_in n w pf)
  pub in_w : 2 * n ≤ length w
  pub in_pf : 3 * n ≤ length pf
