-- What the check is xored with: a layout's mask for data bursts, and the one for header-only bursts.
use Rattle.std.specs.Prelude.{ℕ, ◌≡◌, [], ◌∷◌, map}
use Rattle.layout.specs.declared.layouts.Layout.{Layout}
use Rattle.layout.specs.Layouts.{layouts, layout_of}

unfoldable pub data_mask : ℕ → ℕ
data_mask layout = (layout_of layout).crc_data

unfoldable pub only_mask : ℕ → ℕ
only_mask layout = (layout_of layout).crc_ho

-- By number, QUARTER before SIXTH. Proved in proofs/Masks.antt.
pub record Masks : Type 0 where
  pub data_masks : map (λ (l : Layout). l.crc_data) layouts ≡ 0 ∷ 0x5A0F ∷ 0x3C96 ∷ 0xC3A5 ∷ 0x6E3A ∷ 0x96E3 ∷ 0x4D27 ∷ 0x3B95 ∷ 0x5C71 ∷ []
  pub only_masks : map (λ (l : Layout). l.crc_ho) layouts ≡ 0xB7E1 ∷ 0xE45B ∷ 0x8D2B ∷ 0x71D8 ∷ 0x1BC7 ∷ 0x2B5C ∷ 0xA9C3 ∷ 0xD64E ∷ 0xE2B9 ∷ []
