-- What is known of a cell: frame.rs, `pilot_value`, `p_sym`, `b_value`; rx.rs, `known`.
use Rattle.std.specs.Prelude.{ℕ, ◌+◌, ◌-◌, ◌*◌, ◌%◌, cond, ◌==◌, bit_xor, nat_le, Float}
use Rattle.std.specs.Float.{binary32}
use Rattle.std.specs.Float.Ieee.{neg}
use Rattle.ieee.specs.Num.{◌⊗◌, ◌⊘◌, ◌⊞◌, ◌⊠◌, ◌⧄◌, zero32, f32_of, f64_of}
use Rattle.ieee.specs.Narrow.{narrowed}
use Rattle.ieee.specs.Root.{rooted}
use Rattle.elementary.specs.Constants.{pi}
use Rattle.elementary.specs.Circular.{sin_at, cos_at}
use Rattle.dsp.specs.declared.Complex.{Complex}
use Rattle.dsp.specs.Arithmetic.{complex, scaleᶜ}
use Rattle.bits.specs.Mix.{mix_of}
use Rattle.layout.specs.Constants.{pilot_amp}
use Rattle.layout.specs.declared.map.Map.{Map}
use Rattle.layout.specs.Patterns.{pilots_of}

-- Layout::pilot_value: if mix32((g * self.nc + c) as u32 ^ 0x5eed_1e75) & 1 == 0
unfoldable pub pilot_sign : Map → ℕ → ℕ → Float
pilot_sign m c g = cond (mix_of (bit_xor (g * m.nc + c) 0x5eed_1e75) % 2 == 0) pilot_amp (neg pilot_amp)

-- Map::pilot_value: if g >= self.hdr_end { v.scale(self.gain) } else { v }
unfoldable pub pilot_value : Map → ℕ → ℕ → Complex
pilot_value m c g = let v = complex (pilot_sign m c g) zero32 in cond (nat_le m.hdr_end g) (scaleᶜ v m.gain) v

-- p_sym: data carriers and pilots of the robust pattern
unfoldable pub p_sym : Map → Float
p_sym m = let pilots = pilots_of m.robust m.nc in f32_of (m.nc - pilots) ⊞ f32_of pilots ⊠ pilot_amp ⊠ pilot_amp

-- b_value: let amp = ..; let ph = ..; Complex::new(..)
unfoldable pub amp_of : Map → Float → Float
amp_of m boost = rooted binary32 (p_sym m ⧄ f32_of m.nc) ⊠ boost

unfoldable pub phase_of : ℕ → ℕ → Float
phase_of nc c = pi ⊗ f64_of (c * c) ⊘ f64_of nc

unfoldable pub b_value : Map → ℕ → Float → Complex
b_value m c boost = complex (narrowed (amp_of m boost ⊗ cos_at (phase_of m.nc c))) (narrowed (amp_of m boost ⊗ sin_at (phase_of m.nc c)))

-- known: if g == 0 { b_value } else { pilot_value }, of a known cell
unfoldable pub known_value : Map → Float → ℕ → ℕ → Complex
known_value m boost c g = cond (g == 0) (b_value m c boost) (pilot_value m c g)
