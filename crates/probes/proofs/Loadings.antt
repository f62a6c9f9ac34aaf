-- `Loading` where all lists are long enough.
use Prim.Native.Nat.{ℕ}
use mathlib.Core.Path.{◌≡◌}
use mathlib.Core.List.{List}
use mathlib.Core.Logic.{inr}
use lib.Ieee.{Float}
use Rattle.load.specs.declared.found.Source.{Source}
use Rattle.load.specs.Find.{found_at}
use Rattle.load.specs.Work.{Loads}
use Rattle.probes.specs.declared.pilots.LoadSettings.{LoadSettings}
use Rattle.probes.specs.Loading.{source_for, Lent, Loading}

module _ {t : LoadSettings} {s : Source} (is : s ≡ source_for t) {grid sigma cells expected : List Float} {w₀ : List ℕ} {pf₀ : List Float} where
  pub taken : {w : List ℕ} {pf : List Float} {r : ℕ} → Lent t.nsym s grid sigma cells expected w₀ pf₀ → Loads s grid (found_at s sigma cells expected) w pf r
      → Loading t grid sigma cells expected w₀ pf₀ w pf r
  taken l h = let m = rw is at l in let k = rw is at h in record { loads = λ _. k; short = λ n. absurd (n m); either = inr m }
