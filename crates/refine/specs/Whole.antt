-- The path as the code goes it, whole, over answer and channel list of just the burst's length.
use Rattle.std.specs.Prelude.{ℕ, ◌+◌, ◌*◌, ◌≤◌, ◌≡◌, cond, List, [], length, take, drop, Float}
use Rattle.load.specs.declared.pilot.Pilot.{Pilot}
use Rattle.load.specs.Pilots.{Loaded, pilots}
use Rattle.load.specs.Fit.{places}
use Rattle.model.specs.declared.select.Model.{Model}
use Rattle.refine.specs.declared.settings.Plan.{Plan}
use Rattle.refine.specs.declared.whole.Refined.{Refined}
use Rattle.refine.specs.Front.{cell_length}
use Rattle.refine.specs.Refine.{Burst, ncell, nbits, model, channel_of, slot_likelihoods, refined_of, answer_of, Fit}

-- the first np pilots of the work lists, and where each symbol's begin
abbrev pub pilots_in : Plan → ℕ → List Float → List ℕ → List Pilot
pilots_in p np wf wu = pilots (take np wu) (take np (drop (places p.source) wu)) (take (3 * np) wf) np

abbrev pub starts_in : Plan → List ℕ → List ℕ
starts_in p wu = take (p.source.ng + 1) (drop (2 * places p.source) wu)

-- a spread burst's soft points
abbrev pub soft_in : Plan → List Float → List Float
soft_in p wf = take (cell_length p) (drop (3 * places p.source) wf)

-- none of another burst, of which nothing reads them
abbrev pub soft_heard : Plan → List Float → List Float
soft_heard p wf = cond p.shape.spread (soft_in p wf) []

pub record InWork (p : Plan) (np : ℕ) (wf : List Float) (wu : List ℕ) : Type 0 where
  pub loaded : Loaded (take np wu) (take np (drop (places p.source) wu)) (take (3 * np) wf) (starts_in p wu) p.source.map.nc p.source.ng np
  pub few : np ≤ places p.source
  pub small : places p.source ≤ 118156
  pub in_wf : 3 * places p.source + cell_length p ≤ length wf
  pub in_wu : 2 * places p.source + p.source.ng + 1 ≤ length wu

pub record ExactFit (b : Burst) (answer channel wf : List Float) (wu : List ℕ) : Type 0 where
  pub fit : Fit b answer channel wf wu
  pub whole_answer : length answer ≡ nbits b
  pub whole_channel : length channel ≡ 3 * ncell b

-- judged, with the likelihoods still in slot order
pub record Rejudged (b : Burst) (prior : List Float) (m : Model) (answer channel : List Float) : Type 0 where
  pub chosen : m ≡ model b prior
  pub likelihoods : answer ≡ slot_likelihoods b prior
  pub estimates : channel ≡ channel_of b prior

pub record RefinesExactly (b : Burst) (prior : List Float) (r : Refined) (answer channel : List Float) : Type 0 where
  pub result : r ≡ refined_of b prior
  pub likelihoods : answer ≡ answer_of b prior
  pub estimates : channel ≡ channel_of b prior
