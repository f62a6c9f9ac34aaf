-- A list of pilots, and how lent lists of numbers hold it: carriers, symbols, and three numbers a pilot (re, im,
-- variance).
use Rattle.std.specs.Prelude.{ℕ, ◌+◌, ◌*◌, ◌≤◌, ◌<◌, ◌≡◌, List, length, get_or, Float}
use Rattle.std.specs.Float.{nan}
use Rattle.dsp.specs.Arithmetic.{complex}
use Rattle.seq.specs.Tab.{tab}
use Rattle.load.specs.declared.pilot.Pilot.{Pilot}
use Rattle.load.specs.declared.pilots.Pilots.{Pilots}

-- pilot i of the three lists
abbrev pub pilot_at : List ℕ → List ℕ → List Float → ℕ → Pilot
pilot_at pc pg pf i =
    record { c = get_or pc i 0; g = get_or pg i 0; h = complex (get_or pf (3 * i) nan) (get_or pf (3 * i + 1) nan); var = get_or pf (3 * i + 2) nan }

-- the first n of them
abbrev pub pilots : List ℕ → List ℕ → List Float → ℕ → List Pilot
pilots pc pg pf n = tab n (pilot_at pc pg pf)

-- The pilots are in order of symbol, those of symbol g from start[g] to start[g + 1]: what the search may count on.
pub record Loaded (pc pg : List ℕ) (pf : List Float) (start : List ℕ) (nc ng n : ℕ) : Type 0 where
  pub long_pc : length pc ≡ n
  pub long_pg : length pg ≡ n
  pub long_pf : length pf ≡ 3 * n
  pub long_start : length start ≡ ng + 1
  pub small : n ≤ 118156
  pub symbols : ng ≤ 1084
  pub carriers : nc ≤ 109
  pub carrier : (i : ℕ) → i < n → get_or pc i 0 < nc
  pub symbol : (i : ℕ) → i < n → get_or pg i 0 < ng
  pub from : (i : ℕ) → i < n → get_or start (get_or pg i 0) 0 ≤ i
  pub upto : (i : ℕ) → i < n → i < get_or start (get_or pg i 0 + 1) 0
  pub order : (a b : ℕ) → a ≤ b → b ≤ ng → get_or start a 0 ≤ get_or start b 0
  pub whole : get_or start ng 0 ≡ n

-- what is lent holds these pilots, and they are in order on a grid of nc carriers and ng symbols
abbrev pub listed : Pilots → List Pilot
listed ps = pilots ps.c.now ps.g.now ps.f.now (length ps.c.now)

abbrev pub OnGrid : Pilots → ℕ → ℕ → Type 0
OnGrid ps nc ng = Loaded ps.c.now ps.g.now ps.f.now ps.start.now nc ng (length ps.c.now)
