-- The masks of the nine layouts. Assumes nothing.
use Prim.Native.Nat.{ℕ, ◌^◌, ◌<◌}
use mathlib.Core.Path.{◌≡◌, refl}
use native.Mathlib.Omega.{arith}
use Rattle.layout.specs.declared.layouts.Layout.{Layout}
use Rattle.layout.specs.Layouts.{normal, long, normal_wide, long_wide, slice, slim, half, quarter, sixth, layouts, layout_of}
use Rattle.layout.proofs.Each.{each}
use Rattle.header.specs.Masks.{data_mask, only_mask, Masks}

pub masks : Masks
unfolding layouts normal long normal_wide long_wide slice slim half quarter sixth
masks = record { data_masks = refl; only_masks = refl }

-- ---- both masks of a layout have 16 bits, and they differ

record Apart (l : Layout) : Type 0 where
  data_small : l.crc_data < 2 ^ 16
  only_small : l.crc_ho < 2 ^ 16
  differ : l.crc_ho ≡ l.crc_data → ⊥

apart : (layout : ℕ) → Apart (layout_of layout)
unfolding layouts normal long normal_wide long_wide slice slim half quarter sixth
apart = each Apart (omega arith, (omega arith, (omega arith, (omega arith, (omega arith, (omega arith, (omega arith, (omega arith, (omega arith, tt))))))))) (omega arith)

-- a layout's fields are its masks
module _ (layout : ℕ) (l : Layout) (e : l ≡ layout_of layout) where
  pub is_data_mask : l.crc_data ≡ data_mask layout
  unfolding data_mask
  is_data_mask = rw e refl

  pub is_only_mask : l.crc_ho ≡ only_mask layout
  unfolding only_mask
  is_only_mask = rw e refl

module _ (layout : ℕ) where
  pub data_small : data_mask layout < 2 ^ 16
  unfolding data_mask
  data_small = (apart layout).data_small

  pub only_small : only_mask layout < 2 ^ 16
  unfolding only_mask
  only_small = (apart layout).only_small

  pub masks_differ : only_mask layout ≡ data_mask layout → ⊥
  unfolding data_mask only_mask
  masks_differ = (apart layout).differ
