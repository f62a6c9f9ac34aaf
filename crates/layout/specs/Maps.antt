-- frame.rs, `impl Map`: where the pilots of a burst are.
use Rattle.std.specs.Prelude.{ℕ, ◌-◌, Bool, cond, ◌||◌, ◌==◌, nat_lt, Float}
use Rattle.layout.specs.declared.pattern.Pattern.{Pattern}
use Rattle.layout.specs.declared.layouts.Layout.{Layout}
use Rattle.layout.specs.declared.map.Map.{Map}
use Rattle.layout.specs.Patterns.{on_pattern, pilots_of}
use Rattle.layout.specs.Sizes.{pre_syms, pattern_of}

-- Map::new(l, l.pre_syms(), pilots).with_gain(gain)
unfoldable pub map_of : Layout → Bool → Float → Map
map_of l sparse gain = record { nc = l.nc; hdr_end = pre_syms l; robust = l.robust; «data» = pattern_of l sparse; gain = gain }

-- pattern: if g < self.hdr_end
unfoldable pub pattern_at : Map → ℕ → Pattern
pattern_at m g = cond (nat_lt g m.hdr_end) m.robust m.«data»

-- is_pilot: g == 0 || self.pattern(g).is_pilot(self.l.nc, c, g)
unfoldable pub is_pilot : Map → ℕ → ℕ → Bool
is_pilot m c g = g == 0 || on_pattern (pattern_at m g) m.nc c g

-- data_carriers: self.l.nc - self.pattern(g).pilots(self.l.nc)
unfoldable pub carriers_at : Map → ℕ → ℕ
carriers_at m g = m.nc - pilots_of (pattern_at m g) m.nc
