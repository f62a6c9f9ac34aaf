-- What the probes answer: there is a result r that the entry may give here, and the numbers tell r.
use Rattle.std.specs.Prelude.{ℕ, ◌≡◌, Result, Ok, Err, List, [], ◌∷◌, Float}
use Rattle.ieee.specs.Num.{zero32}
use Rattle.dsp.specs.declared.Complex.{Complex}
use Rattle.refine.specs.Refine.{Burst}
use Rattle.refine.specs.declared.whole.Refined.{Refined}
use Rattle.est.specs.declared.combine.Estimate.{Estimate}
use Rattle.equalize.specs.declared.filter.Equalized.{Equalized}
use Rattle.cause.specs.declared.Cause.{Cause}
use Rattle.cause.specs.Causes.{cause_number}
use Rattle.phy.specs.Entry.{Refining}
use Rattle.phy.specs.Channels.{Measuring, Estimating}
use Rattle.beside.specs.Decisions.{Decides}
use Rattle.beside.specs.Equalizations.{Equalizing}
use Rattle.asides.specs.declared.told.Told.{Told}
use Rattle.asides.specs.declared.refinements.Report.{Report}

-- ---- a result in numbers

abbrev pub refused_by : ℕ → Told
refused_by n = record { number = n; values = zero32 ∷ zero32 ∷ zero32 ∷ [] }

-- an answer by its three numbers, or a cause
abbrev pub told_by : {A : Type 0} → (A → List Float) → Result A Cause → Told
told_by numbers (Ok answer) = record { number = 0; values = numbers answer }
told_by numbers (Err cause) = refused_by (cause_number cause)

abbrev pub decision_numbers : Complex → List Float
decision_numbers x = x.re ∷ x.im ∷ zero32 ∷ []

abbrev pub decision_told : Result Complex Cause → Told
decision_told = told_by decision_numbers

abbrev pub equalization_numbers : Equalized → List Float
equalization_numbers e = e.mu ∷ e.var ∷ zero32 ∷ []

abbrev pub equalization_told : Result Equalized Cause → Told
equalization_told = told_by equalization_numbers

abbrev pub power_numbers : Float → List Float
power_numbers x = x ∷ zero32 ∷ zero32 ∷ []

abbrev pub power_told : Result Float Cause → Told
power_told = told_by power_numbers

abbrev pub single_numbers : Estimate → List Float
single_numbers e = e.h.re ∷ e.h.im ∷ e.mse ∷ []

abbrev pub single_told : Result Estimate Cause → Told
single_told = told_by single_numbers

abbrev pub refused_report : ℕ → Report
refused_report n = record { number = n; fd = 0; tm = 0; spoilt = 0; scale = zero32 }

abbrev pub report_of : Result Refined Cause → Report
report_of (Ok m) = record { number = 0; fd = m.model.fd; tm = m.model.tm; spoilt = m.spoilt; scale = m.model.scale }
report_of (Err cause) = refused_report (cause_number cause)

-- ---- the probes

pub record ProbedDecision (code : ℕ) (y h : Complex) (t : Told) : Type 0 where
  pub r : Result Complex Cause
  pub decides : Decides code y h r
  pub told : t ≡ decision_told r

pub record ProbedEqualization (y h v : List Float) (gain : Float) (z₀ z₁ : List Float) (t : Told) : Type 0 where
  pub r : Result Equalized Cause
  pub equalizing : Equalizing y h v gain r z₀ z₁
  pub told : t ≡ equalization_told r

pub record ProbedPower (b : Burst) (prior wf₀ wf₁ : List Float) (wu₀ wu₁ : List ℕ) (t : Told) : Type 0 where
  pub r : Result Float Cause
  pub measuring : Measuring b prior r wf₀ wf₁ wu₀ wu₁
  pub told : t ≡ power_told r

pub record ProbedSingle (b : Burst) (prior : List Float) (carrier symbol : ℕ) (wf₀ wf₁ : List Float) (wu₀ wu₁ : List ℕ) (t : Told) : Type 0 where
  pub r : Result Estimate Cause
  pub estimating : Estimating b prior carrier symbol r wf₀ wf₁ wu₀ wu₁
  pub told : t ≡ single_told r

pub record ProbedRefinement (b : Burst) (prior answer₀ answer₁ channel₀ channel₁ wf₀ wf₁ : List Float) (wu₀ wu₁ : List ℕ) (t : Report) : Type 0 where
  pub r : Result Refined Cause
  pub refining : Refining b prior r answer₀ answer₁ channel₀ channel₁ wf₀ wf₁ wu₀ wu₁
  pub told : t ≡ report_of r
