-- What a layout gives the estimator, and the values that a model's indices stand for.
use Rattle.std.specs.Prelude.{ℕ, Bool, cond, List, nat_lt, slice_index_or, Float}
use Rattle.std.specs.Float.{nan}
use Rattle.layout.specs.declared.layouts.Layout.{Layout}
use Rattle.near.specs.declared.query.Window.{Window}
use Rattle.est.specs.Model.{Modelled}
use Rattle.est.specs.declared.model.Numerology.{Numerology}

-- what `set_model` reads of self.l
abbrev pub numerology_of : Layout → Numerology
numerology_of l = record { n = l.n; cp = l.cp; nc = l.nc; gw = l.gw; est_lg = l.est_lg }

-- what `estimate_excl` reads of self.l, and ng and self.k
abbrev pub window_of : Layout → ℕ → ℕ → Window
window_of l ng k = record { nc = l.nc; ng = ng; gw = l.gw; cw = l.cw; k = k }

-- refine.rs: Pilots::Robust => &l.fd, Pilots::Sparse => &l.fd_sparse
unfoldable pub fd_grid : Layout → Bool → List Float
fd_grid l sparse = cond sparse l.fd_sparse l.fd

-- fd_grid[i] and l.tm[j]; from 3 on default_model: (l.fd[2], l.tm[2]), of the robust grid
unfoldable pub fd_value : Layout → Bool → ℕ → Float
fd_value l sparse i = cond (nat_lt i 3) (slice_index_or (fd_grid l sparse) i nan) (slice_index_or l.fd 2 nan)

unfoldable pub tm_value : Layout → ℕ → Float
tm_value l j = cond (nat_lt j 3) (slice_index_or l.tm j nan) (slice_index_or l.tm 2 nan)

-- every model of a layout is one that `set_model` may be asked for; of the nine layouts in proofs/Models.antt
unfoldable pub FitModels : Layout → Type 0
FitModels l = (sparse : Bool) (i j : ℕ) → Modelled (numerology_of l) (fd_value l sparse i) (tm_value l j)
