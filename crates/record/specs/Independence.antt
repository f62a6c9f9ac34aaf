-- Demand 3, of two calls of the C functions that return 0. Proved in proofs/OwnPriors.antt.
use Rattle.std.specs.Prelude.{ℕ, ◌+◌, ◌*◌, ◌<◌, ◌≡◌, false, List, get_or}
use Rattle.refine.specs.Refine.{ncell, nbits}
use Rattle.refine.specs.Independence.{OwnBit, SameBut}
use Rattle.phy.specs.Independence.{Shared}
use Rattle.wire.specs.Record.{burst_of, prior_of}
use Rattle.record.specs.Answer.{Answers, AnswersBoth}

-- n bytes from place a are the same
unfoldable pub SameBytes : (a n : ℕ) → List ℕ → List ℕ → Type 0
SameBytes a n out out' = (t : ℕ) → t < n → get_or out (a + t) 0 ≡ get_or out' (a + t) 0

-- Two records of one unspread burst, the same but for the priors of data cell j. They may hold more or fewer priors.
pub record OwnPriors (rec rec' : List ℕ) (j : ℕ) : Type 0 where
  pub shared : Shared (burst_of rec) (burst_of rec')
  pub unspread : (burst_of rec).settings.spread ≡ false
  pub cell : j < ncell (burst_of rec)
  pub priors : SameBut (burst_of rec) j (prior_of rec) (prior_of rec')

-- the bytes of each of cell j's likelihoods
unfoldable pub SameLikelihoods : (rec : List ℕ) → ℕ → List ℕ → List ℕ → Type 0
SameLikelihoods rec j out out' = (i : ℕ) → i < nbits (burst_of rec) → OwnBit (burst_of rec) j i → SameBytes (10 + 4 * i) 4 out out'

-- Where the first six bytes written (model and scale) are the same, so are those of cell j, whatever the outputs held
-- and however long they are.
unfoldable pub Independence : Type 0
Independence =
    (rec rec' : List ℕ) (j : ℕ) → OwnPriors rec rec' j
    → (out₀ out out₀' out' : List ℕ) → Answers rec 0 out₀ out → Answers rec' 0 out₀' out' → SameBytes 0 6 out out'
    → SameLikelihoods rec j out out'

-- and so are its estimate and its error
unfoldable pub IndependenceBoth : Type 0
IndependenceBoth =
    (rec rec' : List ℕ) (j : ℕ) → OwnPriors rec rec' j
    → (out₀ out out₀' out' channel₀ channel channel₀' channel' : List ℕ)
    → AnswersBoth rec 0 out₀ out channel₀ channel → AnswersBoth rec' 0 out₀' out' channel₀' channel' → SameBytes 0 6 out out'
    → SameLikelihoods rec j out out' × SameBytes (12 * j) 12 channel channel'
