-- What a call of `channel_power` and of the single estimate gives: the table's number, and either the value or both
-- lists of the work area as they were.
use Rattle.std.specs.Prelude.{ℕ, ◌≡◌, Result, Ok, Err, Bool, true, false, cond, ◌&&◌, ◌||◌, List, leb, eqb, length, Float}
use Rattle.layout.specs.Layouts.{layout_of}
use Rattle.layout.specs.Sizes.{ng_of}
use Rattle.refine.specs.declared.settings.Settings.{Settings}
use Rattle.refine.specs.Refine.{Burst}
use Rattle.channel.specs.Channel.{power_of, single_of}
use Rattle.est.specs.declared.combine.Estimate.{Estimate}
use Rattle.cause.specs.declared.Cause.{Cause}
use Rattle.cause.specs.declared.Cause.TheVariants.{Place}
use Rattle.cause.specs.Causes.{number_of}
use Rattle.table.specs.Sizes.{nc_of, work_length}
use Rattle.table.specs.Refusals.{refusal_of}

module _ (s : Settings) where
  -- 6, where this does not hold: room in both lists of the work area
  unfoldable pub work_room : (wf wu : ℕ) → Bool
  work_room wf wu = leb (work_length s) wf && leb (work_length s) wu

  -- 11: carrier or symbol beyond the grid
  unfoldable pub bad_place : (carrier symbol : ℕ) → Bool
  bad_place carrier symbol = leb (nc_of s) carrier || leb (ng_of (layout_of s.layout) s.nsym) symbol

-- nothing was written
pub record Untouched (wf₀ wf₁ : List Float) (wu₀ wu₁ : List ℕ) : Type 0 where
  pub wf : wf₁ ≡ wf₀
  pub wu : wu₁ ≡ wu₀

module _ (b : Burst) (prior : List Float) where
  -- the table as refine has it, with the work area for all that is lent
  abbrev pub refusal_within : (wf : List Float) → (wu : List ℕ) → ℕ
  refusal_within wf wu = refusal_of b prior (work_room b.settings (length wf) (length wu))

  -- each list before and after
  pub record Measuring (r : Result Float Cause) (wf₀ wf₁ : List Float) (wu₀ wu₁ : List ℕ) : Type 0 where
    pub number : number_of r ≡ refusal_within wf₀ wu₀
    pub accepted : refusal_within wf₀ wu₀ ≡ 0 → r ≡ Ok (power_of b prior)
    pub refused : (refusal_within wf₀ wu₀ ≡ 0 → ⊥) → Untouched wf₀ wf₁ wu₀ wu₁

  module _ (carrier symbol : ℕ) where
    -- the place is tested last
    unfoldable pub refusal_at : (wf : List Float) → (wu : List ℕ) → ℕ
    refusal_at wf wu = let q = refusal_within wf wu in cond (eqb q 0) (cond (bad_place b.settings carrier symbol) 11 0) q

    pub record Estimating (r : Result Estimate Cause) (wf₀ wf₁ : List Float) (wu₀ wu₁ : List ℕ) : Type 0 where
      pub number : number_of r ≡ refusal_at wf₀ wu₀
      pub accepted : refusal_at wf₀ wu₀ ≡ 0 → r ≡ Ok (single_of b prior carrier symbol)
      pub refused : (refusal_at wf₀ wu₀ ≡ 0 → ⊥) → Untouched wf₀ wf₁ wu₀ wu₁

    -- of a burst that the table passes
    pub record Placed (r : Result Estimate Cause) (wf₀ wf₁ : List Float) (wu₀ wu₁ : List ℕ) : Type 0 where
      pub inside : bad_place b.settings carrier symbol ≡ false → r ≡ Ok (single_of b prior carrier symbol)
      pub beyond : bad_place b.settings carrier symbol ≡ true → (r ≡ Err Place) × Untouched wf₀ wf₁ wu₀ wu₁
