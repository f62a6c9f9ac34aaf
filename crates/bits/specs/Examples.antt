-- The worked examples of steps and slots.
use Rattle.std.specs.Prelude.{◌≡◌, [], ◌∷◌}
use Rattle.bits.specs.Step.{step_of}
use Rattle.bits.specs.Slots.{slot_of}

pub record WorkedExamples : Type 0 where
  pub steps : step_of 2 ∷ step_of 3 ∷ step_of 6 ∷ step_of 10 ∷ step_of 12 ∷ [] ≡ 1 ∷ 2 ∷ 5 ∷ 7 ∷ 7 ∷ []
  pub slots : slot_of 6 0 ∷ slot_of 6 1 ∷ slot_of 6 2 ∷ slot_of 6 3 ∷ slot_of 6 4 ∷ slot_of 6 5 ∷ [] ≡ 0 ∷ 5 ∷ 4 ∷ 3 ∷ 2 ∷ 1 ∷ []
