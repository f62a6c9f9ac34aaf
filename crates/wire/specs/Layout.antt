-- A burst record written, and that what is written reads back. Proved in proofs/RoundTrip.antt.
use Rattle.std.specs.Prelude.{ℕ, ◌+◌, ◌*◌, ◌/◌, ◌%◌, ◌^◌, ◌<◌, ◌≡◌, Bool, cond, List, [], ◌∷◌, ◌++◌, T, length, get_or, Float}
use Rattle.std.specs.Float.{binary32, nan}
use Rattle.std.specs.Float.Ieee.{fits}
use Rattle.seq.specs.Cat.{cat}
use Rattle.table.specs.Sizes.{nc_of, ncell_of, grid_cells}
use Rattle.scan.specs.Fine.{all}
use Rattle.refine.specs.declared.settings.Settings.{Settings}
use Rattle.refine.specs.Refine.{Burst}
use Rattle.words.specs.Bytes.{number}
use Rattle.wire.specs.Record.{burst_of, prior_of}

abbrev bit : Bool → ℕ
bit b = cond b 1 0

unfoldable pub head_of : Settings → (priors : ℕ) → ℕ
head_of s priors =
    s.layout * 2 ^ 44 + s.constellation * 2 ^ 42 + s.nsym * 2 ^ 32 + bit s.sparse * 2 ^ 31 + bit s.spread * 2 ^ 30
    + s.gain_code * 2 ^ 28 + s.k * 2 ^ 22 + priors * 2 ^ 2

unfoldable pub head_bytes : ℕ → List ℕ
head_bytes h = (h / 2 ^ 40) ∷ (h / 2 ^ 32 % 2 ^ 8) ∷ (h / 2 ^ 24 % 2 ^ 8) ∷ (h / 2 ^ 16 % 2 ^ 8) ∷ (h / 2 ^ 8 % 2 ^ 8) ∷ (h % 2 ^ 8) ∷ []

abbrev pub numbers_laid : List Float → List ℕ
numbers_laid xs = cat (length xs) (λ i. number (get_or xs i nan))

unfoldable pub laid_out : Burst → (prior : List Float) → List ℕ
laid_out b prior =
    head_bytes (head_of b.settings (length prior))
    ++ (number b.settings.boost ++ (number b.settings.pilot_gain ++ (number b.settings.p_h
    ++ (numbers_laid b.sigma ++ (numbers_laid b.cells ++ (numbers_laid b.grid ++ numbers_laid prior))))))

-- fields no wider than their place, lists of the burst's lengths, every number an f32
pub record Holds (b : Burst) (prior : List Float) : Type 0 where
  pub layout : b.settings.layout < 2 ^ 4
  pub constellation : b.settings.constellation < 2 ^ 2
  pub nsym : b.settings.nsym < 2 ^ 10
  pub gain_code_lem : b.settings.gain_code < 2 ^ 2
  pub k : b.settings.k < 2 ^ 6
  pub priors : length prior < 2 ^ 20
  pub sigma : length b.sigma ≡ nc_of b.settings
  pub cells : length b.cells ≡ ncell_of b.settings
  pub grid : length b.grid ≡ 2 * grid_cells b.settings
  pub boost_f32 : T (fits binary32 b.settings.boost)
  pub pilot_gain_f32 : T (fits binary32 b.settings.pilot_gain)
  pub power_f32 : T (fits binary32 b.settings.p_h)
  pub sigma_f32 : T (all (fits binary32) b.sigma)
  pub cells_f32 : T (all (fits binary32) b.cells)
  pub grid_f32 : T (all (fits binary32) b.grid)
  pub prior_f32 : T (all (fits binary32) prior)

pub record RoundTrip : Type 0 where
  -- what is laid out reads back
  pub back : (b : Burst) (prior : List Float) → Holds b prior → (burst_of (laid_out b prior) ≡ b) × (prior_of (laid_out b prior) ≡ prior)
  -- and what is read can be laid out: every record's fields and numbers
  pub held : (rec : List ℕ) → ((i : ℕ) → get_or rec i 0 < 2 ^ 8) → Holds (burst_of rec) (prior_of rec)
