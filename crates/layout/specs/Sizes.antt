-- frame.rs, `impl Layout`: how many symbols, carriers and cells there are.
use Rattle.std.specs.Prelude.{◌≡◌, ℕ, ◌+◌, ◌-◌, ◌*◌, ◌≤◌, Bool, true, false, cond, [], ◌∷◌, map}
use Rattle.layout.specs.declared.pattern.Pattern.{Pattern}
use Rattle.layout.specs.declared.layouts.Layout.{Layout}
use Rattle.layout.specs.Layouts.{layouts, layout_of}
use Rattle.layout.specs.Patterns.{pilots_of}

-- sym: self.n + self.cp
abbrev pub sym_of : Layout → ℕ
sym_of l = l.n + l.cp

-- pre_syms: 1 + self.hdr_syms
abbrev pub pre_syms : Layout → ℕ
pre_syms l = 1 + l.hdr_syms

-- pattern: &self.robust or &self.sparse
unfoldable pub pattern_of : Layout → Bool → Pattern
pattern_of l sparse = cond sparse l.sparse l.robust

-- data_carriers: self.nc - self.pattern(p).pilots(self.nc)
unfoldable pub data_carriers_of : Layout → Bool → ℕ
data_carriers_of l sparse = l.nc - pilots_of (pattern_of l sparse) l.nc

-- ---- a burst of nsym data symbols: document 01's ng, ncell and nbits

abbrev pub ng_of : Layout → ℕ → ℕ
ng_of l nsym = pre_syms l + nsym

abbrev pub ncell_of : Layout → Bool → ℕ → ℕ
ncell_of l sparse nsym = nsym * data_carriers_of l sparse

abbrev pub nbits_of : Layout → Bool → ℕ → ℕ → ℕ
nbits_of l sparse nsym bps = ncell_of l sparse nsym * bps

-- ---- statements, proved in proofs/Bounds.antt

-- document 01's lists, layouts 0 to 8
pub record Counts : Type 0 where
  pub robust : map (λ l. data_carriers_of l false) layouts ≡ 44 ∷ 88 ∷ 51 ∷ 99 ∷ 10 ∷ 22 ∷ 5 ∷ 3 ∷ 10 ∷ []
  pub sparse : map (λ l. data_carriers_of l true) layouts ≡ 46 ∷ 88 ∷ 52 ∷ 99 ∷ 11 ∷ 22 ∷ 5 ∷ 3 ∷ 10 ∷ []
  pub leading : map pre_syms layouts ≡ 5 ∷ 3 ∷ 5 ∷ 3 ∷ 19 ∷ 9 ∷ 37 ∷ 61 ∷ 19 ∷ []

pub record LayoutBounds (l : Layout) (sparse : Bool) : Type 0 where
  pub nc_low : 5 ≤ l.nc
  pub nc_high : l.nc ≤ 109
  pub dc_low : 3 ≤ data_carriers_of l sparse
  pub dc_high : data_carriers_of l sparse ≤ 99
  pub pre_low : 3 ≤ pre_syms l
  pub pre_high : pre_syms l ≤ 61
  pub gw_is : l.gw ≡ 12
  pub cw_high : l.cw ≤ 24

pub record BurstBounds (l : Layout) (sparse : Bool) (nsym bps : ℕ) : Type 0 where
  pub ng_high : ng_of l nsym ≤ 1084
  pub ncell_low : 3 ≤ ncell_of l sparse nsym
  pub ncell_high : ncell_of l sparse nsym ≤ 101277
  pub nbits_low : 6 ≤ nbits_of l sparse nsym bps
  pub nbits_high : nbits_of l sparse nsym bps ≤ 607662

pub record Bounds : Type 0 where
  pub layout : (number : ℕ) (sparse : Bool) → LayoutBounds (layout_of number) sparse
  pub burst : (number : ℕ) (sparse : Bool) (nsym bps : ℕ) → 1 ≤ nsym → nsym ≤ 1023 → 2 ≤ bps → bps ≤ 6 → BurstBounds (layout_of number) sparse nsym bps
