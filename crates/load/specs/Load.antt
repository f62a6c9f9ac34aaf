-- est.rs, `load_with` and `pilot_index`, over what `value(c, g)` finds.
use Rattle.std.specs.Prelude.{ℕ, zero, suc, ◌+◌, ◌-◌, ◌*◌, ◌^◌, Bool, cond, List, [], ◌∷◌, eqb, length, get_or, Float}
use Rattle.std.specs.Float.{nan}
use Rattle.seq.specs.Cat.{cat}
use Rattle.ieee.specs.Num.{◌⧄◌, one32}
use Rattle.dsp.specs.declared.Complex.{Complex}
use Rattle.dsp.specs.Flat.{complex_at}
use Rattle.dsp.specs.Arithmetic.{complex, conjᶜ, norm_sqr, scaleᶜ, ◌*ᶜ◌}
use Rattle.load.specs.declared.pilot.Pilot.{Pilot}
use Rattle.load.specs.declared.found.Found.{Found}
use Rattle.load.specs.declared.found.Found.TheVariants.{Known, Soft, Blank}

-- grid[i]
abbrev pub sample_at : List Float → ℕ → Complex
sample_at grid i = complex_at grid i

-- Pilot { c, g, h: (y * x.conj()).scale(1.0 / e), var: v / e }, with e = x.norm_sqr()
unfoldable pub pilot_of : ℕ → ℕ → Complex → Complex → Float → Pilot
pilot_of c g y x v = let e = norm_sqr x in record { c = c; g = g; h = scaleᶜ (y *ᶜ conjᶜ x) (one32 ⧄ e); var = v ⧄ e }

-- if let Some((x, v)) = value(c, g) { self.pilots.push(..) }
abbrev pub pushed : ℕ → ℕ → Complex → Found → List Pilot
pushed c g y (Known x v) = pilot_of c g y x v ∷ []
pushed c g y (Soft x v) = pilot_of c g y x v ∷ []
pushed c g y Blank = []

-- what a list of pilots has past its end
abbrev pub nothing : Pilot
nothing = record { c = 0; g = 0; h = complex nan nan; var = nan }

-- usize::MAX
abbrev pub nowhere : ℕ
nowhere = 2 ^ 64 - 1

-- (i..i + n).find(t), nowhere if there is none
unfoldable pub find_in : ℕ → ℕ → (ℕ → Bool) → ℕ
find_in zero i t = nowhere
find_in (suc n) i t =
    let r = find_in n (suc i) t in
    cond (t i) i r

module _ (nc : ℕ) (grid : List Float) (value : ℕ → ℕ → Found) where
  abbrev pub loaded_at : ℕ → ℕ → List Pilot
  loaded_at g c = pushed c g (sample_at grid (g * nc + c)) (value c g)

  -- for c in 0..nc
  unfoldable pub loaded_row : ℕ → List Pilot
  loaded_row g = cat nc (loaded_at g)

  -- self.pilots, after for g in 0..ng
  unfoldable pub loaded : ℕ → List Pilot
  loaded ng = cat ng loaded_row

  -- self.start[g]
  unfoldable pub start_of : ℕ → ℕ
  start_of g = length (loaded g)

  -- (self.start[g]..self.start[g + 1]).find(|&i| self.pilots[i].c as usize == c)
  unfoldable pub pilot_index : ℕ → ℕ → ℕ → ℕ
  pilot_index ng c g = find_in (start_of (g + 1) - start_of g) (start_of g) (λ i. eqb (get_or (loaded ng) i nothing).c c)
