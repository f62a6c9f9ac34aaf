-- Demand 3, of two calls of `refine` that are accepted. Proved in proofs/OwnPriors.antt.
use Rattle.std.specs.Prelude.{ℕ, ◌<◌, ◌≡◌, Ok, false, List, Float}
use Rattle.refine.specs.declared.whole.Refined.{Refined}
use Rattle.refine.specs.Refine.{Burst, ncell}
use Rattle.refine.specs.Independence.{SameBut, SameReport, SameCell}
use Rattle.phy.specs.Entry.{Refining}

-- two calls on one burst that share settings, grid and variances
pub record Shared (b b' : Burst) : Type 0 where
  pub settings : b.settings ≡ b'.settings
  pub grid : b.grid ≡ b'.grid
  pub sigma : b.sigma ≡ b'.sigma
  pub cells : b.cells ≡ b'.cells

-- an accepted call: what it reports and leaves in answer and channel list, whatever these and the work area held
-- before and however long they are
pub record Accepts (b : Burst) (prior : List Float) (r : Refined) (answer channel : List Float) : Type 0 where
  pub answer₀ : List Float
  pub channel₀ : List Float
  pub wf₀ : List Float
  pub wf₁ : List Float
  pub wu₀ : List ℕ
  pub wu₁ : List ℕ
  pub call : Refining b prior (Ok r) answer₀ answer channel₀ channel wf₀ wf₁ wu₀ wu₁

-- Where the burst is unspread, the priors are the same but for those of data cell j, and model and scale are reported
-- the same, cell j has one estimate, one error and one set of likelihoods.
unfoldable pub Independence : Type 0
Independence =
    (b b' : Burst) → Shared b b' → b.settings.spread ≡ false → (j : ℕ) → j < ncell b → (p q : List Float) → SameBut b j p q
    → (r r' : Refined) (answer answer' channel channel' : List Float)
    → Accepts b p r answer channel → Accepts b' q r' answer' channel' → SameReport r r'
    → SameCell b j channel channel' answer answer'
