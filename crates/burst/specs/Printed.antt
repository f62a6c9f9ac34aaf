-- Lines as document 01 prints them. Proved in proofs/AsPrinted.antt.
use Rattle.std.specs.Prelude.{◌^◌, ◌≡◌, [], ◌∷◌}
use Rattle.std.specs.Float.{binary32, nan}
use Rattle.std.specs.Float.Ieee.{to_bits}
use Rattle.burst.specs.Lines.{heading_of, line_of, refused_of}

pub record AsPrinted : Type 0 where
  -- "bits 6 model 0 0 scale 3F800000 spoilt 0"
  pub heading : heading_of 6 0 0 1065353216 0
      ≡ 98 ∷ 105 ∷ 116 ∷ 115 ∷ 32 ∷ 54 ∷ 32 ∷ 109 ∷ 111 ∷ 100 ∷ 101 ∷ 108 ∷ 32 ∷ 48 ∷ 32 ∷ 48 ∷ 32 ∷ 115 ∷ 99 ∷ 97 ∷ 108 ∷ 101 ∷ 32
      ∷ 51 ∷ 70 ∷ 56 ∷ 48 ∷ 48 ∷ 48 ∷ 48 ∷ 48 ∷ 32 ∷ 115 ∷ 112 ∷ 111 ∷ 105 ∷ 108 ∷ 116 ∷ 32 ∷ 48 ∷ 10 ∷ []
  -- "00000000" for either zero, "7FC00000"
  pub zero : line_of 0 ≡ 48 ∷ 48 ∷ 48 ∷ 48 ∷ 48 ∷ 48 ∷ 48 ∷ 48 ∷ 10 ∷ []
  pub minus_zero_lem : line_of (2 ^ 31) ≡ line_of 0
  pub not_a_number : line_of (to_bits binary32 nan) ≡ 55 ∷ 70 ∷ 67 ∷ 48 ∷ 48 ∷ 48 ∷ 48 ∷ 48 ∷ 10 ∷ []
  -- "refused 12"
  pub refused : refused_of 12 ≡ 114 ∷ 101 ∷ 102 ∷ 117 ∷ 115 ∷ 101 ∷ 100 ∷ 32 ∷ 49 ∷ 50 ∷ 10 ∷ []
