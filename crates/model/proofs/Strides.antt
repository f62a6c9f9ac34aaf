-- The turns counted are those of the source's `while` loop, and of the code's loop by steps.
use Rattle.std.proofs.Common.{◌≡◌, ℕ, ◌+◌, ◌-◌, ◌*◌, ◌/◌, ◌<◌, ◌≤◌, mul-le-mul_right, mod-lt, suc-mul, div-add-mod', arith}
use Rattle.std.proofs.Math.Nat.{lt_of_mul-lt-mul_right, div-lt_iff_lt-mul}
use Rattle.seq.specs.Loop.{for}
use Rattle.seq.specs.Loop.Laws.{for_none, for_step, for_end}
use native.Mathlib.Nat.{le-max_right}
use Rattle.model.specs.Score.{stride_of, turns_of}
use Rattle.model.specs.Laws.{WhileLoop}

pub stride_pos : (np : ℕ) → 1 ≤ stride_of np
unfolding stride_of
stride_pos np = le-max_right (np / 160) 1

pub while_loop : (np : ℕ) → WhileLoop np
unfolding turns_of
while_loop np =
    let s = stride_of np in
    let n = div-add-mod' (np + s - 1) s in
    record {
      goes = λ j h. omega (arith, stride_pos np, n, suc-mul j s, mul-le-mul_right s h);
      stops = omega (arith, stride_pos np, n, mod-lt (np + s - 1) (stride_pos np));
    }

-- a pilot at which a turn starts is within the turns counted
turn_counted : (np j : ℕ) → j * stride_of np < np → j < turns_of np
turn_counted np j h = lt_of_mul-lt-mul_right (stride_of np) (omega (arith, h, (while_loop np).stops))

-- and where a turn would start past the pilots, the turns counted are over
turns_over : (np j : ℕ) → np ≤ j * stride_of np → turns_of np ≤ j
unfolding turns_of
turns_over np j h =
    let s = stride_of np in
    let e : (np + s - 1) / s < j + 1 = (div-lt_iff_lt-mul (stride_pos np)).1 (omega (arith, h, suc-mul j s, stride_pos np)) in
    omega (arith, e)

-- The loop at pilot i: j turns are behind it, of the state t.
pub record Stepped {S : Type 0} (np : ℕ) (turn : ℕ → S → S) (first : S) (i : ℕ) (t : S) : Type 0 where
  pub j : ℕ
  pub at : i ≡ j * stride_of np
  pub within : j ≤ turns_of np
  pub state : t ≡ for 0 j turn first

module _ {S : Type 0} (np : ℕ) (turn : ℕ → S → S) (first : S) where
  pub stepped_first : Stepped np turn first 0 first
  stepped_first = record { j = 0; at = omega arith; within = omega arith; state = for_none turn 0 first }

  module _ (i : ℕ) (s t : S) (x : Stepped np turn first i s) (e : t ≡ turn x.j s) where
    pub stepped_next : i + stride_of np < np → Stepped np turn first (i + stride_of np) t
    stepped_next h = record {
      j = x.j + 1;
      at = omega (arith, x.at, suc-mul x.j (stride_of np));
      within = omega (arith, turn_counted np (x.j + 1) (omega (arith, h, x.at, suc-mul x.j (stride_of np))));
      state = for_step turn 0 x.j first s t (omega arith) x.state e;
    }

    pub stepped_last : i < np → np ≤ i + stride_of np → t ≡ for 0 (turns_of np) turn first
    stepped_last b h =
        for_end turn 0 (x.j + 1) (turns_of np) first t
        (omega (arith, turn_counted np x.j (omega (arith, b, x.at))))
        (turns_over np (x.j + 1) (omega (arith, h, x.at, suc-mul x.j (stride_of np))))
        (for_step turn 0 x.j first s t (omega arith) x.state e)

  pub stepped_none : (i : ℕ) (s : S) → Stepped np turn first i s → np ≤ i → s ≡ for 0 (turns_of np) turn first
  stepped_none i s x h =
      for_end turn 0 x.j (turns_of np) first s x.within (turns_over np x.j (omega (arith, h, x.at))) x.state
