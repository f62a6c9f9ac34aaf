-- refine.rs: the loop that fills `soft`, and the closure handed to `load_with`, which asks for a known value first.
use Rattle.std.specs.Prelude.{ℕ, ◌+◌, ◌-◌, ◌*◌, cond, List, eqb, ltb, get_or, Float}
use Rattle.std.specs.Float.{nan}
use Rattle.seq.specs.Loop.{for}
use Rattle.ieee.specs.Num.{◌⊞◌, ◌⊠◌}
use Rattle.dsp.specs.declared.Complex.{Complex}
use Rattle.dsp.specs.Arithmetic.{complex}
use Rattle.layout.specs.Maps.{is_pilot}
use Rattle.layout.specs.Known.{known_value}
use Rattle.layout.specs.Carriers.{data_carrier, cell_index}
use Rattle.soft.specs.Soft.{loud_of}
use Rattle.load.specs.declared.found.Found.{Found}
use Rattle.load.specs.declared.found.Found.TheVariants.{Known, Soft, Blank}
use Rattle.load.specs.declared.found.Source.{Source}

-- xm[cell]
abbrev pub mean_at : List Float → ℕ → Complex
mean_at expected cell = complex (get_or expected (3 * cell) nan) (get_or expected (3 * cell + 1) nan)

-- cell = (g - pre) * dc + j
abbrev pub cell_of : Source → ℕ → ℕ → ℕ
cell_of s g j = (g - s.map.hdr_end) * s.dc + j

module _ (s : Source) (cells expected : List Float) where
  -- if x.norm_sqr() >= SOFT_MIN * es { Some((x, cell_s2[cell] + p_h * xv[cell])) }, else what was there
  unfoldable pub soft_cell : ℕ → Found → Found
  soft_cell cell f =
      cond (loud_of (mean_at expected cell) s.es) (Soft (mean_at expected cell) (get_or cells cell nan ⊞ s.p_h ⊠ get_or expected (3 * cell + 2) nan)) f

  -- soft[g * nc + cc] = .., as the place of carrier c sees it
  unfoldable pub soft_step : ℕ → ℕ → ℕ → Found → Found
  soft_step g c j f = cond (eqb (data_carrier s.map g j) c) (soft_cell (cell_of s g j) f) f

  -- soft[g * nc + c], after for g in pre..ng { for (j, &cc) in dtab[g % per].iter().enumerate() { .. } }
  unfoldable pub soft_at : ℕ → ℕ → Found
  soft_at c g = cond (ltb g s.map.hdr_end) Blank (for 0 s.dc (soft_step g c) Blank)

  -- the same by the number of data cells of the symbol before carrier c
  unfoldable pub soft_counted : ℕ → ℕ → Found
  soft_counted c g = cond (ltb g s.map.hdr_end) Blank (soft_cell (cell_of s g (cell_index s.map g c)) Blank)

-- known(&map, c, g).map(|x| (x, sigma2[c])).or(soft[g * nc + c])
abbrev pub known_or : Source → List Float → ℕ → ℕ → Found → Found
known_or s sigma c g f = cond (is_pilot s.map c g) (Known (known_value s.map s.boost c g) (get_or sigma c nan)) f

unfoldable pub found_at : Source → List Float → List Float → List Float → ℕ → ℕ → Found
found_at s sigma cells expected c g = known_or s sigma c g (soft_at s cells expected c g)

unfoldable pub found_counted : Source → List Float → List Float → List Float → ℕ → ℕ → Found
found_counted s sigma cells expected c g = known_or s sigma c g (soft_counted s cells expected c g)
