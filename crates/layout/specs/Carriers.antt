-- frame.rs, `data_carriers_of`: the data carriers of a symbol, and what is proved of them in proofs/Cells.antt.
use Rattle.std.specs.Prelude.{◌≡◌, ℕ, ◌<◌, ◌≤◌, Bool, false, cond, List, [], ◌∷◌, length, slice_index, Float}
use Rattle.seq.specs.Cat.{cat}
use Rattle.layout.specs.declared.map.Map.{Map}
use Rattle.layout.specs.Layouts.{layout_of}
use Rattle.layout.specs.Sizes.{pre_syms, data_carriers_of}
use Rattle.layout.specs.Maps.{map_of, is_pilot}

-- if !self.is_pilot(c, g) { out[j] = c; j += 1; }
abbrev pub data_at : Map → ℕ → ℕ → List ℕ
data_at m g c = cond (is_pilot m c g) [] (c ∷ [])

-- for c in 0..self.l.nc
unfoldable pub data_carriers : Map → ℕ → List ℕ
data_carriers m g = cat m.nc (data_at m g)

-- the j-th
unfoldable pub data_carrier : Map → ℕ → ℕ → ℕ
data_carrier m g j = slice_index (data_carriers m g) j

-- how many stand before carrier c
unfoldable pub cell_index : Map → ℕ → ℕ → ℕ
cell_index m g c = length (cat c (data_at m g))

-- symbol g has exactly dc data cells: by number and by carrier they are the same
pub record Cells (m : Map) (g dc : ℕ) : Type 0 where
  pub count : length (data_carriers m g) ≡ dc
  pub within : (j : ℕ) → j < dc → data_carrier m g j < m.nc
  pub free : (j : ℕ) → j < dc → is_pilot m (data_carrier m g j) g ≡ false
  pub index : (j : ℕ) → j < dc → cell_index m g (data_carrier m g j) ≡ j
  pub ascending : (i j : ℕ) → i < j → j < dc → data_carrier m g i < data_carrier m g j
  pub below : (c : ℕ) → c < m.nc → is_pilot m c g ≡ false → cell_index m g c < dc
  pub carrier : (c : ℕ) → c < m.nc → is_pilot m c g ≡ false → data_carrier m g (cell_index m g c) ≡ c

-- of all layouts together: the header's symbols go by the robust pattern, the data symbols by the burst's own
pub record DataCells : Type 0 where
  pub header : (number : ℕ) (sparse : Bool) (gain : Float) (g : ℕ) → 1 ≤ g → g < pre_syms (layout_of number)
      → Cells (map_of (layout_of number) sparse gain) g (data_carriers_of (layout_of number) false)
  pub «data» : (number : ℕ) (sparse : Bool) (gain : Float) (g : ℕ) → pre_syms (layout_of number) ≤ g
      → Cells (map_of (layout_of number) sparse gain) g (data_carriers_of (layout_of number) sparse)

-- document 01's worked examples: layout 7 at symbols 61 and 62 (proofs/Examples.antt)
pub record Examples : Type 0 where
  pub at_61 : (sparse : Bool) (gain : Float) → data_carriers (map_of (layout_of 7) sparse gain) 61 ≡ 0 ∷ 1 ∷ 3 ∷ []
  pub at_62 : (sparse : Bool) (gain : Float) → data_carriers (map_of (layout_of 7) sparse gain) 62 ≡ 1 ∷ 2 ∷ 3 ∷ []
