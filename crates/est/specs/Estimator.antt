-- What an estimator answers at carrier c of symbol g: the definitions of `Estimate`, at what it holds.
use Rattle.std.specs.Prelude.{ℕ, ◌<◌, ◌≤◌, List, map, length, slice_index}
use Rattle.load.specs.Pilots.{listed}
use Rattle.load.specs.declared.pilot.Pilot.{Pilot}
use Rattle.near.specs.Search.{pilot}
use Rattle.near.specs.declared.query.Query.{Query}
use Rattle.est.specs.Columns.{carriers, symbols, variances, reals, imaginaries}
use Rattle.est.specs.Covariance.{Usable}
use Rattle.est.specs.declared.neighbours.Field.{Field}
use Rattle.est.specs.Estimate.{combined, estimate_excl, estimate_without, estimate_all}
use Rattle.est.specs.declared.combine.Estimate.{Estimate}
use Rattle.est.specs.declared.estimator.Estimator.{Estimator}

module _ (e : Estimator) (c g : ℕ) where
  abbrev pub query_at : Query
  query_at = record { c = c; g = g; lc = e.scales.lc; lg = e.scales.lg }

  -- pilot x left out
  abbrev pub excl_at : ℕ → Estimate
  excl_at x = estimate_excl e.p_h e.rf.now e.rt.now query_at e.window (listed e.pilots) e.pilots.start.now x

  abbrev pub without_at : ℕ → Estimate
  without_at x = estimate_without e.p_h e.rf.now e.rt.now query_at e.window (listed e.pilots) e.pilots.start.now e.mse_scale x

  abbrev pub all_at : Estimate
  all_at = estimate_all e.p_h e.rf.now e.rt.now query_at e.window (listed e.pilots) e.pilots.start.now e.mse_scale

-- the pilots that idx names, what fetching and using them may count on, and what is made of them
abbrev pub picked : Estimator → List ℕ → List Pilot
picked e idx = map (pilot (listed e.pilots)) idx

pub record Fetched (e : Estimator) (q : Query) (m : Field) (idx : List ℕ) : Type 0 where
  pub few : length idx ≤ 40
  pub inside : (i : ℕ) → i < length idx → slice_index idx i < length e.pilots.c.now
  pub usable : Usable m e.rf.now e.rt.now q (carriers (picked e idx)) (symbols (picked e idx))

abbrev pub combined_of : Field → Estimator → Query → List Pilot → Estimate
combined_of m e q ps = combined m e.rf.now e.rt.now q (carriers ps) (symbols ps) (variances ps) (reals ps) (imaginaries ps)
