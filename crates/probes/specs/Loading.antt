-- What `probe_load` answers: where every list is long enough, what `load` leaves; else nothing.
use Rattle.std.specs.Prelude.{ℕ, ◌*◌, ◌≤◌, ◌≡◌, Bool, true, false, ◌⊎◌, List, length, Float}
use Rattle.load.specs.declared.found.Source.{Source}
use Rattle.load.specs.Find.{found_at}
use Rattle.layout.specs.Layouts.{layout_of}
use Rattle.load.specs.Fit.{source_of, ncell, FitSource, Room}
use Rattle.load.specs.Work.{Loads}
use Rattle.probes.specs.declared.pilots.LoadSettings.{LoadSettings}

abbrev pub source_for : LoadSettings → Source
source_for t = source_of (layout_of t.layout) t.sparse t.gain t.nsym t.boost t.p_h t.es

pub record Small (s : Source) : Type 0 where
  pub symbols : s.ng ≤ 1084
  pub leading : s.map.hdr_end ≤ s.ng
  pub few : s.map.nc ≤ 109
  pub cells : s.dc ≤ 99

pub record Long (s : Source) (sigma cells expected : List Float) : Type 0 where
  pub in_sigma : s.map.nc ≤ length sigma
  pub in_cells : ncell s ≤ length cells
  pub in_expected : 3 * ncell s ≤ length expected

pub record Sourced (t : LoadSettings) (s : Source) : Type 0 where
  pub is : s ≡ source_for t
  pub small : Small s
  pub fit : (sigma cells expected : List Float) → Long s sigma cells expected → FitSource s sigma cells expected

-- true where P does not hold
pub record Misses (b : Bool) (P : Type 0) : Type 0 where
  pub no : b ≡ true → P → ⊥
  pub yes : b ≡ false → P

pub record Lent (nsym : ℕ) (s : Source) (grid sigma cells expected : List Float) (w : List ℕ) (pf : List Float) : Type 0 where
  pub symbols : nsym ≤ 1023
  pub long : Long s sigma cells expected
  pub room : Room s grid w pf

pub record Loading (t : LoadSettings) (grid sigma cells expected : List Float) (w₀ : List ℕ) (pf₀ : List Float) (w : List ℕ) (pf : List Float) (r : ℕ) : Type 0 where
  pub loads : Lent t.nsym (source_for t) grid sigma cells expected w₀ pf₀ → Loads (source_for t) grid (found_at (source_for t) sigma cells expected) w pf r
  pub short : (Lent t.nsym (source_for t) grid sigma cells expected w₀ pf₀ → ⊥) → (r ≡ 0) × (w ≡ w₀) × (pf ≡ pf₀)
  pub either : (r ≡ 0) ⊎ Lent t.nsym (source_for t) grid sigma cells expected w₀ pf₀
