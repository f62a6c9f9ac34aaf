-- What the callers may count on, as statements: `proofs/Laws.antt` proves them.
use Rattle.std.specs.Prelude.{ℕ, ◌*◌, ◌<◌, ◌^◌, ◌≡◌, false, List, length, Float}
use Rattle.std.specs.Float.{binary32}
use Rattle.std.specs.Float.Ieee.{round}
use Rattle.elementary.specs.Constants.{least}
use Rattle.dsp.specs.Flat.{complex_at}
use Rattle.equalize.specs.Filter.{e_6, e_3, at}
use Rattle.equalize.specs.Fde.{fde_of}
use Rattle.equalize.specs.Sic.{sic_of}

-- the first m complex numbers of two lists, and the first m numbers, are the same
abbrev pub Alike : ℕ → List Float → List Float → Type 0
Alike m a b = (j : ℕ) → j < m → complex_at a j ≡ complex_at b j

abbrev pub Same : ℕ → List Float → List Float → Type 0
Same m a b = (j : ℕ) → j < m → at a j ≡ at b j

-- m complex numbers are written, and no more than m of each list are read
pub record FdeLaws : Type 0 where
  pub count : (m : ℕ) (tw y h v : List Float) (gain : Float) → length (fde_of m tw y h v gain).z ≡ 2 * m
  pub reads : (m : ℕ) (tw : List Float) (gain : Float) (y y' h h' v v' : List Float)
      → Alike m y y' → Alike m h h' → Same m v v' → fde_of m tw y h v gain ≡ fde_of m tw y' h' v' gain

pub record SicLaws : Type 0 where
  pub count : (m : ℕ) (tw y h v : List Float) (gain : Float) (xm : List Float) (vx : Float) → length (sic_of m tw y h v gain xm vx).z ≡ 2 * m
  pub reads : (m : ℕ) (tw : List Float) (gain vx : Float) (y y' h h' v v' xm xm' : List Float)
      → Alike m y y' → Alike m h h' → Same m v v' → Alike m xm xm' → sic_of m tw y h v gain xm vx ≡ sic_of m tw y' h' v' gain xm' vx

-- the constants are those of the source, the decimals rounded to the nearest
pub record Constants : Type 0 where
  pub power : least ≡ round binary32 false 1 (10 ^ 30)
  pub gain : e_6 ≡ round binary32 false 1 (10 ^ 6)
  pub variance : e_3 ≡ round binary32 false 1 (10 ^ 3)
