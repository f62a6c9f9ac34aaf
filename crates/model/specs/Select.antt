-- est.rs, `select_model`: the best of the nine models, line by line.
use Rattle.std.specs.Prelude.{ℕ, ◌/◌, ◌%◌, cond, List, Float}
use Rattle.std.specs.Float.Ieee.{lt}
use Rattle.seq.specs.Loop.{for}
use Rattle.seq.specs.Tab.{tab}
use Rattle.ieee.specs.Num.{◌⊖◌, ◌⊘◌, one64, one32}
use Rattle.ieee.specs.Narrow.{narrowed}
use Rattle.ieee.specs.Order.{max_of, clamp_of}
use Rattle.load.specs.declared.pilot.Pilot.{Pilot}
use Rattle.model.specs.Constants.{e_30, ten, infinity}
use Rattle.model.specs.Values.{fd_value, tm_value}
use Rattle.model.specs.Score.{tried_of}
use Rattle.model.specs.declared.trial.Setting.{Setting}
use Rattle.model.specs.declared.trial.Tried.{Tried}
use Rattle.model.specs.declared.select.Model.{Model}
use Rattle.model.specs.declared.select.BestModel.{BestModel}

abbrev pub model : ℕ → ℕ → Float → Model
model fd tm scale = record { fd = fd; tm = tm; scale = scale }

abbrev pub best : Float → Model → BestModel
best r m = record { r = r; model = m }

-- let mut best = (f64::INFINITY, default_model(self.l), 1.0f32)
abbrev pub none : BestModel
none = best infinity (model 3 3 one32)

-- let scale = ((r - v) / m.max(1e-30)).clamp(1.0, 10.0) as f32
unfoldable pub scale_of : Tried → Float
scale_of t = narrowed (clamp_of ((t.r ⊖ t.v) ⊘ max_of t.m e_30) one64 ten)

-- if r < best.0 { .. best = (r, (fd, tm), scale); }
unfoldable pub better : ℕ → ℕ → Tried → BestModel → BestModel
better i j t b = cond (lt t.r b.r) (best t.r (model i j (scale_of t))) b

module _ (s : Setting) (ps : List Pilot) (start : List ℕ) where
  -- for &fd in fd_grid { for &tm in &l.tm { .. } }: the t-th of the nine has fd_grid[t / 3] and l.tm[t % 3]
  unfoldable pub tried : ℕ → Tried
  tried t = tried_of ps start s (fd_value s.l s.sparse (t / 3)) (tm_value s.l (t % 3))

  -- the nine residuals in the order tried
  unfoldable pub residuals : List Float
  residuals = tab 9 (λ t. (tried t).r)

  unfoldable pub next : ℕ → BestModel → BestModel
  next t = better (t / 3) (t % 3) (tried t)

  -- best.1, by its indices, and best.2
  unfoldable pub select_model : Model
  select_model = (for 0 9 next none).model
