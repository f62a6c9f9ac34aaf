-- What a call of the C functions gives: the table's number, and either the answer's bytes or the output as it was.
use Rattle.std.specs.Prelude.{ℕ, ◌*◌, ◌≡◌, ◌&&◌, List, ◌++◌, length, drop, leb}
use Rattle.refine.specs.Refine.{ncell, nbits, refined_of, answer_of, channel_of}
use Rattle.wire.specs.Record.{burst_of, prior_of}
use Rattle.wire.specs.Shape.{answer_length, channel_length}
use Rattle.wire.specs.Bytes.{number_bytes, report_bytes}
use Rattle.record.specs.Refusals.{refusal_in}

module _ (rec : List ℕ) where
  -- the report, then the likelihoods in bit order
  unfoldable pub answer_bytes : List ℕ
  answer_bytes = report_bytes (refined_of (burst_of rec) (prior_of rec)) ++ number_bytes (nbits (burst_of rec)) (answer_of (burst_of rec) (prior_of rec))

  -- each data cell's estimate (re, im) and error, in cell order
  unfoldable pub channel_bytes : List ℕ
  channel_bytes = number_bytes (3 * ncell (burst_of rec)) (channel_of (burst_of rec) (prior_of rec))

-- `refine_record`
pub record Answers (rec : List ℕ) (r : ℕ) (out₀ out₁ : List ℕ) : Type 0 where
  pub result : r ≡ refusal_in rec (leb (answer_length rec) (length out₀))
  pub accepted : r ≡ 0 → out₁ ≡ answer_bytes rec ++ drop (answer_length rec) out₀
  pub refused : (r ≡ 0 → ⊥) → out₁ ≡ out₀

-- `refine_record_channel`: the same, with the estimates
pub record AnswersBoth (rec : List ℕ) (r : ℕ) (out₀ out₁ channel₀ channel₁ : List ℕ) : Type 0 where
  pub result : r ≡ refusal_in rec (leb (answer_length rec) (length out₀) && leb (channel_length rec) (length channel₀))
  pub accepted : r ≡ 0 → (out₁ ≡ answer_bytes rec ++ drop (answer_length rec) out₀) × (channel₁ ≡ channel_bytes rec ++ drop (channel_length rec) channel₀)
  pub refused : (r ≡ 0 → ⊥) → (out₁ ≡ out₀) × (channel₁ ≡ channel₀)
