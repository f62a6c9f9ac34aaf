-- Document 01's twelve cases, jointly. Proved in proofs/Twelve.antt.
use Rattle.std.specs.Prelude.{◌≡◌, Bool, [], ◌∷◌, Float}
use Rattle.std.specs.Float.{binary32}
use Rattle.std.specs.Float.Ieee.{of_bits}
use Rattle.ieee.specs.Num.{zero32, one32}
use Rattle.bits.specs.Step.{step_of}
use Rattle.bits.specs.Slots.{slot_of}
use Rattle.layout.specs.Layouts.{layout_of}
use Rattle.layout.specs.Maps.{map_of}
use Rattle.layout.specs.Carriers.{data_carriers}
use Rattle.elementary.specs.Exp.{exp_at}
use Rattle.elementary.specs.Ln.{ln_at}
use Rattle.header.specs.Check.{crc16_of}

abbrev pub minus88 : Float
minus88 = of_bits binary32 0xc2b0_0000

pub record Twelve : Type 0 where
  pub step_2 : step_of 2 ≡ 1
  pub step_3 : step_of 3 ≡ 2
  pub step_6 : step_of 6 ≡ 5
  pub step_10 : step_of 10 ≡ 7
  pub step_12 : step_of 12 ≡ 7
  pub slots_6 : slot_of 6 0 ∷ slot_of 6 1 ∷ slot_of 6 2 ∷ slot_of 6 3 ∷ slot_of 6 4 ∷ slot_of 6 5 ∷ [] ≡ 0 ∷ 5 ∷ 4 ∷ 3 ∷ 2 ∷ 1 ∷ []
  pub cells_61 : (sparse : Bool) (gain : Float) → data_carriers (map_of (layout_of 7) sparse gain) 61 ≡ 0 ∷ 1 ∷ 3 ∷ []
  pub cells_62 : (sparse : Bool) (gain : Float) → data_carriers (map_of (layout_of 7) sparse gain) 62 ≡ 1 ∷ 2 ∷ 3 ∷ []
  pub exp_0 : exp_at zero32 ≡ one32
  pub exp_minus_88 : exp_at minus88 ≡ zero32
  pub ln_1 : ln_at one32 ≡ zero32
  pub crc_of_0 : crc16_of (0 ∷ []) ≡ 0xEFDF
