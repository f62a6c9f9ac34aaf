-- What the functions below the two calls give: a burst cut out of its numbers, and its refinement written in bytes.
use Rattle.std.specs.Prelude.{ℕ, ◌+◌, ◌*◌, ◌≤◌, ◌≡◌, true, List, ◌++◌, length, take, drop, get_or, Float, Result}
use Rattle.std.specs.Float.{nan}
use Rattle.refine.specs.declared.settings.Settings.{Settings}
use Rattle.refine.specs.Refine.{Burst, burst, ncell, nbits, refined_of, answer_of, channel_of}
use Rattle.refine.specs.declared.whole.Refined.{Refined}
use Rattle.cause.specs.declared.Cause.{Cause}
use Rattle.cause.specs.Causes.{number_of}
use Rattle.table.specs.Sizes.{Counted, ncell_of, nbits_of, work_length}
use Rattle.table.specs.Refusals.{refusal_of}
use Rattle.phy.specs.Entry.{Refines}
use Rattle.wire.specs.declared.fields.Fields.{Fields}
use Rattle.wire.specs.Record.{settings_of}
use Rattle.wire.specs.Sizes.{plain, sizes_of}
use Rattle.wire.specs.Bytes.{number_bytes, report_bytes}

-- ---- a burst out of its numbers

module _ (f : Fields) (nums : List Float) where
  unfoldable pub settings_in : Settings
  settings_in = settings_of f (get_or nums 0 nan) (get_or nums 1 nan) (get_or nums 2 nan)

  unfoldable pub burst_in : Burst
  burst_in =
      let z = sizes_of f in
      burst settings_in (take (2 * z.grid) (drop (3 + z.nc + z.ncell) nums)) (take z.nc (drop 3 nums)) (take z.ncell (drop (3 + z.nc) nums))

  unfoldable pub prior_in : List Float
  prior_in = let z = sizes_of f in drop (3 + z.nc + z.ncell + 2 * z.grid) nums

-- a burst whose record is no longer than 8,192 bytes: its lists fit those that it is lent
pub record Short (s : Settings) : Type 0 where
  pub counted : Counted s
  pub bits : nbits_of s ≤ 4086
  pub cells : 3 * ncell_of s ≤ 2043
  pub work : work_length s ≤ 12258

-- and its numbers are all there
pub record Whole (f : Fields) (nums : List Float) : Type 0 where
  pub short : Short (plain f)
  pub count : let z = sizes_of f in 3 + z.nc + z.ncell + 2 * z.grid ≤ length nums
  pub few : length nums ≤ 2046

-- ---- its refinement

-- with a work area that is enough
pub record Refining (b : Burst) (prior : List Float) (r : Result Refined Cause) (answer₀ answer₁ channel₀ channel₁ : List Float) : Type 0 where
  pub number : number_of r ≡ refusal_of b prior true
  pub accepted : refusal_of b prior true ≡ 0 → Refines b prior r answer₀ answer₁ channel₀ channel₁

-- ---- in bytes

-- what a burst's numbers come to, where the outputs have room
pub record Judges (b : Burst) (prior : List Float) (n : ℕ) (out₀ out₁ channel₀ channel₁ : List ℕ) : Type 0 where
  pub result : n ≡ refusal_of b prior true
  pub accepted : n ≡ 0
      → (out₁ ≡ (report_bytes (refined_of b prior) ++ number_bytes (nbits b) (answer_of b prior)) ++ drop (10 + 4 * nbits b) out₀)
      × (channel₁ ≡ number_bytes (3 * ncell b) (channel_of b prior) ++ drop (4 * (3 * ncell b)) channel₀)
  pub refused : (n ≡ 0 → ⊥) → (out₁ ≡ out₀) × (channel₁ ≡ channel₀)
