-- What `select_model` answers, whatever the pilots. Statements, proved in proofs/Strides.antt, Models.antt and
-- First.antt.
use Rattle.std.specs.Prelude.{◌≡◌, ℕ, ◌*◌, ◌/◌, ◌%◌, ◌<◌, ◌≤◌, Bool, false, T, ◌⊎◌, List, from_bits, slice_index_or, Float}
use Rattle.std.specs.Float.{nan, binary32}
use Rattle.std.specs.Float.Ieee.{lt, le}
use Rattle.ieee.specs.Num.{one32}
use Rattle.layout.specs.declared.layouts.Layout.{Layout}
use Rattle.load.specs.declared.pilot.Pilot.{Pilot}
use Rattle.model.specs.Constants.{infinity}
use Rattle.model.specs.Values.{fd_value, tm_value}
use Rattle.model.specs.Score.{stride_of, turns_of}
use Rattle.model.specs.Select.{model, scale_of, tried, select_model}
use Rattle.model.specs.declared.trial.Setting.{Setting}
use Rattle.model.specs.declared.select.Model.{Model}

-- `while i < np { .. i += stride; }` from i = 0: in turn j i is j * stride, which is below np in the turns counted,
-- and no more after the last
pub record WhileLoop (np : ℕ) : Type 0 where
  pub goes : (j : ℕ) → j < turns_of np → j * stride_of np < np
  pub stops : np ≤ turns_of np * stride_of np

-- the values of the indices 3 3: the robust grid's, also where the pilots are sparse
pub record RobustFallback (l : Layout) (sparse : Bool) : Type 0 where
  pub fd : fd_value l sparse 3 ≡ slice_index_or l.fd 2 nan
  pub tm : tm_value l 3 ≡ slice_index_or l.tm 2 nan

-- 10.0 at f32
abbrev pub ten32 : Float
ten32 = from_bits binary32 0x4120_0000

-- one of the grids' nine
pub record OfGrid (m : Model) : Type 0 where
  pub fd : m.fd < 3
  pub tm : m.tm < 3
  -- in 1..10, or not a number
  pub scale : (m.scale ≡ nan) ⊎ (T (le one32 m.scale) × T (le m.scale ten32))

module _ (s : Setting) (ps : List Pilot) (start : List ℕ) where
  -- the t-th is chosen: none has a smaller residual, and none before it one as small
  pub record Chosen (t : ℕ) : Type 0 where
    pub below : t < 9
    pub is : select_model s ps start ≡ model (t / 3) (t % 3) (scale_of (tried s ps start t))
    pub least : (u : ℕ) → u < 9 → lt (tried s ps start u).r (tried s ps start t).r ≡ false
    pub first : (u : ℕ) → u < t → le (tried s ps start u).r (tried s ps start t).r ≡ false

  -- none is: no residual is below infinity
  pub record Fallback : Type 0 where
    pub is : select_model s ps start ≡ model 3 3 one32
    pub none : (u : ℕ) → u < 9 → lt (tried s ps start u).r infinity ≡ false

unfoldable pub InRange : Type 0
InRange = (s : Setting) (ps : List Pilot) (start : List ℕ) → OfGrid (select_model s ps start) ⊎ (select_model s ps start ≡ model 3 3 one32)

unfoldable pub FirstLeast : Type 0
FirstLeast = (s : Setting) (ps : List Pilot) (start : List ℕ) → ((t : ℕ) × Chosen s ps start t) ⊎ Fallback s ps start
