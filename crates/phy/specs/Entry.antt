-- What a call of `refine` gives: the table's number, and either refine's values or every list as it was.
use Rattle.std.specs.Prelude.{ℕ, ◌*◌, ◌≡◌, Result, Ok, List, ◌++◌, drop, Float}
use Rattle.refine.specs.Refine.{Burst, nbits, ncell, refined_of, answer_of, channel_of}
use Rattle.refine.specs.declared.whole.Refined.{Refined}
use Rattle.cause.specs.declared.Cause.{Cause}
use Rattle.cause.specs.Causes.{number_of}
use Rattle.table.specs.Refusals.{refusal_in}

-- what was written, in front of what the lists held
pub record Refines (b : Burst) (prior : List Float) (r : Result Refined Cause) (answer₀ answer₁ channel₀ channel₁ : List Float) : Type 0 where
  pub result : r ≡ Ok (refined_of b prior)
  pub answer : answer₁ ≡ answer_of b prior ++ drop (nbits b) answer₀
  pub channel : channel₁ ≡ channel_of b prior ++ drop (3 * ncell b) channel₀

-- nothing was written
pub record Keeps (answer₀ answer₁ channel₀ channel₁ wf₀ wf₁ : List Float) (wu₀ wu₁ : List ℕ) : Type 0 where
  pub answer : answer₁ ≡ answer₀
  pub channel : channel₁ ≡ channel₀
  pub wf : wf₁ ≡ wf₀
  pub wu : wu₁ ≡ wu₀

-- each list before and after
pub record Refining (b : Burst) (prior : List Float) (r : Result Refined Cause) (answer₀ answer₁ channel₀ channel₁ wf₀ wf₁ : List Float) (wu₀ wu₁ : List ℕ) : Type 0 where
  pub number : number_of r ≡ refusal_in b prior answer₀ channel₀ wf₀ wu₀
  pub accepted : refusal_in b prior answer₀ channel₀ wf₀ wu₀ ≡ 0 → Refines b prior r answer₀ answer₁ channel₀ channel₁
  pub refused : (refusal_in b prior answer₀ channel₀ wf₀ wu₀ ≡ 0 → ⊥) → Keeps answer₀ answer₁ channel₀ channel₁ wf₀ wf₁ wu₀ wu₁

-- What a call is handed fixes what it gives; the work area alone is free. Proved in proofs/Fixing.antt.
unfoldable pub Fixed : Type 0
Fixed =
    (b : Burst) (prior : List Float) (r r' : Result Refined Cause) (answer₀ answer₁ answer₁' channel₀ channel₁ channel₁' wf₀ wf₁ wf₁' : List Float) (wu₀ wu₁ wu₁' : List ℕ)
    → Refining b prior r answer₀ answer₁ channel₀ channel₁ wf₀ wf₁ wu₀ wu₁ → Refining b prior r' answer₀ answer₁' channel₀ channel₁' wf₀ wf₁' wu₀ wu₁'
    → (r ≡ r') × (answer₁ ≡ answer₁') × (channel₁ ≡ channel₁')
