-- What the fields say of the sizes. Assumes nothing.
use Prim.Native.Nat.{ℕ, ◌+◌, ◌*◌, ◌^◌, ◌<◌, ◌≤◌}
use mathlib.Core.Path.{◌≡◌, refl}
use mathlib.Core.List.{List}
use native.Mathlib.Omega.{arith}
use Rattle.table.specs.Sizes.{Counted, nc_of, ncell_of, grid_cells, nbits_of}
use Rattle.table.proofs.Bounded.{small}
use Rattle.wire.specs.declared.fields.Fields.{Fields}
use Rattle.wire.specs.declared.shape.Sizes.{Sizes}
use Rattle.wire.specs.Record.{head, fields_of, fields, settings, settings_of, count_of}
use Rattle.wire.specs.Sizes.{plain, sizes_of}
use Rattle.layout.proofs.Bounds.{bounds}

-- the prior count has 20 bits
few_priors : (h : ℕ) → (fields_of h).priors < 2 ^ 20
unfolding fields_of
few_priors h = omega arith

-- so that every sum of what the fields give fits
pub record Few (f : Fields) (z : Sizes) : Type 0 where
  pub carriers : z.nc ≤ 109
  pub cells : z.ncell ≤ 101277
  pub grid : z.grid ≤ 118156
  pub priors : f.priors < 2 ^ 20

pub few : (rec : List ℕ) (f : Fields) (z : Sizes) → f ≡ fields rec → Counted (plain f) → z ≡ sizes_of f → Few f z
unfolding sizes_of
few rec f z e n h = record {
  carriers = rw h (bounds.layout (plain f).layout (plain f).sparse).nc_high;
  cells = rw h (small (plain f) n).cells;
  grid = rw h (small (plain f) n).grid;
  priors = rw e (few_priors (head rec));
}

module _ (rec : List ℕ) where
  -- the numbers of the settings are read for no size
  pub same_sizes : sizes_of (fields rec) ≡ record { nc = nc_of (settings rec); ncell = ncell_of (settings rec); grid = grid_cells (settings rec); nbits = nbits_of (settings rec) }
  unfolding settings settings_of sizes_of
  same_sizes = refl

  pub counted_numbers : count_of rec ≡ 3 + (sizes_of (fields rec)).nc + (sizes_of (fields rec)).ncell + 2 * (sizes_of (fields rec)).grid + (fields rec).priors
  unfolding count_of settings settings_of sizes_of
  counted_numbers = refl

-- for `grind`, of how long a record is
pub ruleset lengths = (few, counted_numbers)
