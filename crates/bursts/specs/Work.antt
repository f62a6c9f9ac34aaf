-- A loaded burst: its setting and its pilots, and how the work lists hold np pilots.
use Rattle.std.specs.Prelude.{ℕ, ◌+◌, ◌*◌, ◌≤◌, ◌<◌, ◌≡◌, List, length, take, drop, Float}
use Rattle.seq.specs.Tab.{tab}
use Rattle.layout.specs.Layouts.{layout_of}
use Rattle.layout.specs.Sizes.{ng_of}
use Rattle.load.specs.declared.pilot.Pilot.{Pilot}
use Rattle.load.specs.declared.found.Source.{Source}
use Rattle.load.specs.Find.{found_at}
use Rattle.load.specs.Load.{loaded, start_of}
use Rattle.load.specs.Pilots.{pilots, Loaded}
use Rattle.est.specs.Estimate.{held_k}
use Rattle.model.specs.Values.{FitModels}
use Rattle.model.specs.declared.trial.Setting.{Setting}
use Rattle.probes.specs.declared.pilots.LoadSettings.{LoadSettings}

-- with k held
abbrev pub setting_for : LoadSettings → ℕ → Setting
setting_for t k = record { l = layout_of t.layout; sparse = t.sparse; ng = ng_of (layout_of t.layout) t.nsym; k = held_k k; p_h = t.p_h }

pub record Set (t : LoadSettings) (k : ℕ) (s : Setting) : Type 0 where
  pub is : s ≡ setting_for t k
  pub some : 1 ≤ s.k
  pub most : s.k ≤ 40

-- the pilots of a burst, and where those of each symbol begin
abbrev pub pilots_in : Source → (grid sigma cells expected : List Float) → List Pilot
pilots_in s grid sigma cells expected = loaded s.map.nc grid (found_at s sigma cells expected) s.ng

abbrev pub starts_in : Source → (grid sigma cells expected : List Float) → List ℕ
starts_in s grid sigma cells expected = tab (s.ng + 1) (start_of s.map.nc grid (found_at s sigma cells expected))

-- ---- in the work lists

abbrev pub places_in : Setting → ℕ
places_in s = s.ng * s.l.nc

abbrev pub pilots_at : Setting → ℕ → List ℕ → List Float → List Pilot
pilots_at s np w pf = pilots (take np w) (take np (drop (places_in s) w)) (take (3 * np) pf) np

abbrev pub starts_at : Setting → List ℕ → List ℕ
starts_at s w = take (s.ng + 1) (drop (2 * places_in s) w)

pub record Room (s : Setting) (np : ℕ) (w : List ℕ) : Type 0 where
  pub few : np ≤ places_in s
  pub small : places_in s ≤ 118156
  pub symbols : s.ng ≤ 1084
  pub long : 2 * places_in s + s.ng + 1 ≤ length w

pub record InWork (s : Setting) (np : ℕ) (w : List ℕ) (pf : List Float) : Type 0 where
  pub room : Room s np w
  pub long_pf : 3 * places_in s ≤ length pf
  pub loaded : Loaded (take np w) (take np (drop (places_in s) w)) (take (3 * np) pf) (starts_at s w) s.l.nc s.ng np
  pub models : FitModels s.l
  pub carriers : 0 < s.l.nc
  pub width : s.l.gw ≤ 12
  pub some : 1 ≤ s.k
  pub most : s.k ≤ 40
