-- What the code asks of a layout. frame.rs asserts most of it of its nine as it is compiled; `proofs/Fits.antt` proves
-- it of them.
use Rattle.std.specs.Prelude.{◌≡◌, ℕ, ◌-◌, ◌*◌, ◌%◌, ◌<◌, ◌≤◌}
use Rattle.elementary.specs.Domain.{InTurns}
use Rattle.layout.specs.declared.pattern.Pattern.{Pattern}
use Rattle.layout.specs.declared.layouts.Layout.{Layout}
use Rattle.layout.specs.declared.map.Map.{Map}
use Rattle.layout.specs.Known.{phase_of}

-- after a period of shifts the pilots are a step further on
pub record Turning (p : Pattern) : Type 0 where
  pub steps : 2 ≤ p.step
  pub turns : p.shift * p.period ≡ p.step

-- the carriers are a whole number of steps, and the top carrier
pub record FitPattern (p : Pattern) (nc : ℕ) : Type 0 where
  pub turning : Turning p
  pub some : 1 ≤ nc
  pub whole : (nc - 1) % p.step ≡ 0

-- N_MAX, NC_MAX, and the longest prefix and header of the nine
pub record FitSizes (l : Layout) : Type 0 where
  pub robust : FitPattern l.robust l.nc
  pub sparse : FitPattern l.sparse l.nc
  pub few : l.nc ≤ 109
  pub long : l.n ≤ 320
  pub prefix : l.cp ≤ 80
  pub leading : l.hdr_syms ≤ 60

-- sin and cos may be asked for the phases of the reference symbol
unfoldable pub FitPhases : ℕ → Type 0
FitPhases nc = (c : ℕ) → c < nc → InTurns (phase_of nc c)

pub record FitLayout (l : Layout) : Type 0 where
  pub sizes : FitSizes l
  pub phases : FitPhases l.nc

pub record FitMap (m : Map) : Type 0 where
  pub robust : FitPattern m.robust m.nc
  pub «data» : FitPattern m.«data» m.nc
  pub few : m.nc ≤ 109
  pub phases : FitPhases m.nc
