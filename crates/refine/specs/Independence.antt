-- Demand 3: two refinements of one unspread burst that share all priors but those of data cell j, and report one
-- model and scale, give cell j one estimate, one error and one set of likelihoods. Proved in
-- proofs/Independence.antt. Floats are compared by `≡`: Float has a sign at each number, zero too, and a single
-- `nan`, so this is equality of bits with all not-a-numbers the same.
use Rattle.std.specs.Prelude.{ℕ, ◌+◌, ◌*◌, ◌≤◌, ◌<◌, ◌≡◌, false, List, get_or, Float}
use Rattle.std.specs.Float.{nan}
use Rattle.bits.specs.Slots.{slot_of, nought}
use Rattle.refine.specs.declared.whole.Refined.{Refined}
use Rattle.refine.specs.Refine.{Burst, nsym, bps, ncell, nbits, Refines}

-- bit i sits at one of cell j's slots, j * bps to (j + 1) * bps - 1
pub record OwnBit (b : Burst) (j i : ℕ) : Type 0 where
  pub from : j * bps b ≤ slot_of (nbits b) i
  pub upto : slot_of (nbits b) i < (j + 1) * bps b

-- the first nbits priors, a missing one as 0, so the lists may differ in length
unfoldable pub SameBut : Burst → ℕ → List Float → List Float → Type 0
SameBut b j p q = (i : ℕ) → i < nbits b → (OwnBit b j i → ⊥) → get_or p i nought ≡ get_or q i nought

-- the reported model and error scale; the spoilt count may differ
pub record SameReport (r r' : Refined) : Type 0 where
  pub fd : r.model.fd ≡ r'.model.fd
  pub tm : r.model.tm ≡ r'.model.tm
  pub scale : r.model.scale ≡ r'.model.scale

-- the channel list's numbers 3 j to 3 j + 2, and the answer's numbers for the cell's bits
pub record SameCell (b : Burst) (j : ℕ) (channel channel' answer answer' : List Float) : Type 0 where
  pub estimate : (t : ℕ) → t < 3 → get_or channel (3 * j + t) nan ≡ get_or channel' (3 * j + t) nan
  pub likelihood : (i : ℕ) → i < nbits b → OwnBit b j i → get_or answer i nan ≡ get_or answer' i nan

-- It is said of what the contract promises of two calls, whatever answer and channel list held before and however
-- long they are. An accepted burst has at most 1023 data symbols.
unfoldable pub Independence : Type 0
Independence =
    (b : Burst) → nsym b ≤ 1023 → b.settings.spread ≡ false → (j : ℕ) → j < ncell b → (p q : List Float) → SameBut b j p q
    → (r r' : Refined) (answer₀ answer₁ channel₀ channel₁ answer₀' answer₁' channel₀' channel₁' : List Float)
    → Refines b p r answer₀ answer₁ channel₀ channel₁ → Refines b q r' answer₀' answer₁' channel₀' channel₁' → SameReport r r'
    → SameCell b j channel₁ channel₁' answer₁ answer₁'
