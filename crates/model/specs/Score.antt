-- est.rs, `select_model`, its inner loop line by line: how well a model estimates the pilots from each other.
use Rattle.std.specs.Prelude.{ℕ, ◌+◌, ◌-◌, ◌*◌, ◌/◌, ◌≤◌, max, List, length, Float}
use Rattle.seq.specs.Loop.{for}
use Rattle.ieee.specs.Num.{◌⊕◌, zero64}
use Rattle.dsp.specs.Arithmetic.{◌-ᶜ◌, norm_sqr}
use Rattle.load.specs.Pilots.{OnGrid}
use Rattle.load.specs.declared.pilot.Pilot.{Pilot}
use Rattle.load.specs.declared.pilots.Pilots.{Pilots}
use Rattle.near.specs.Search.{pilot}
use Rattle.near.specs.declared.query.Query.{Query}
use Rattle.near.specs.declared.query.Window.{Window}
use Rattle.est.specs.Model.{rf_of, rt_of, scales_of}
use Rattle.est.specs.Estimate.{estimate_excl}
use Rattle.est.specs.declared.model.Numerology.{Numerology}
use Rattle.est.specs.declared.model.Scales.{Scales}
use Rattle.est.specs.declared.combine.Estimate.{Estimate}
use Rattle.model.specs.Values.{numerology_of, window_of}
use Rattle.model.specs.declared.trial.Setting.{Setting}
use Rattle.model.specs.declared.trial.Tried.{Tried}

-- let stride = (np / 160).max(1)
unfoldable pub stride_of : ℕ → ℕ
stride_of np = max (np / 160) 1

-- how often `while i < np` goes round, where i is 0, stride, 2 stride, ..: proofs/Strides.antt shows it
unfoldable pub turns_of : ℕ → ℕ
turns_of np = (np + stride_of np - 1) / stride_of np

abbrev pub triple : Float → Float → Float → Tried
triple r v m = record { r = r; v = v; m = m }

-- p.c as usize, p.g as usize, with the distances' units of the model
abbrev pub query_at : Scales → Pilot → Query
query_at u p = record { c = p.c; g = p.g; lc = u.lc; lg = u.lg }

-- r += (h - p.h).norm_sqr() as f64; v += p.var as f64; m += mse as f64
unfoldable pub added : Estimate → Pilot → Tried → Tried
added e p t = triple (t.r ⊕ norm_sqr (e.h -ᶜ p.h)) (t.v ⊕ p.var) (t.m ⊕ e.mse)

module _ (w : Window) (ph : Float) (ps : List Pilot) (start : List ℕ) (u : Scales) (rf rt : List Float) where
  -- let p = self.pilots[i]; let (h, mse) = self.estimate_excl(p.c as usize, p.g as usize, ng, p_h, i)
  unfoldable pub others : ℕ → Estimate
  others i = estimate_excl ph rf rt (query_at u (pilot ps i)) w ps start i

  unfoldable pub add_pilot : ℕ → Tried → Tried
  add_pilot i = added (others i) (pilot ps i)

  -- the turn j of the loop, at i = j * stride
  unfoldable pub turn : ℕ → Tried → Tried
  turn j = add_pilot (j * stride_of (length ps))

  -- let (mut r, mut v, mut m) = (0f64, 0f64, 0f64); let mut i = 0; while i < np { .. i += stride; }
  unfoldable pub summed : Tried
  summed = for 0 (turns_of (length ps)) turn (triple zero64 zero64 zero64)

module _ (ps : List Pilot) (start : List ℕ) where
  -- self.set_model(fd, tm), then the loop; no scale is applied
  unfoldable pub modelled : Numerology → Window → Float → Float → Float → Tried
  modelled l w ph fd tm = summed w ph ps start (scales_of l fd tm) (rf_of l tm) (rt_of l fd)

  unfoldable pub tried_of : Setting → Float → Float → Tried
  tried_of s fd tm = modelled (numerology_of s.l) (window_of s.l s.ng s.k) s.p_h fd tm

-- ---- what the code may count on

pub record Fit (s : Setting) (ps : Pilots) : Type 0 where
  pub loaded : OnGrid ps s.l.nc s.ng
  pub some : 1 ≤ s.k
  pub most : s.k ≤ 40
