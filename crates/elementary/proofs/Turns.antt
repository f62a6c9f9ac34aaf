-- A loop that counts down does the turns of `turns`: one turn of it, and its end. Assumes nothing.
use Rattle.std.proofs.Common.{◌≡◌, ℕ, zero, suc, ◌+◌, ◌-◌, ◌<◌, ◌≤◌, lt_irrefl, arith}
use Rattle.elementary.specs.FixedPoint.{turns}

-- with n turns left, the next is turn j
pub turn_at : (last n j : ℕ) (step : ℕ → ℕ → ℕ) (s : ℕ) → 0 < n → j ≡ last + (n - 1) → turns last (n - 1) step (step j s) ≡ turns last n step s
unfolding turns
turn_at last zero j step s h e = absurd (lt_irrefl 0 h)
turn_at last (suc i) j step s h e = rw (e, pred i)
  where
    pred : (i : ℕ) → suc i - 1 ≡ i
    pred i = omega arith

pub turn_none : (last n : ℕ) (step : ℕ → ℕ → ℕ) (s : ℕ) → n ≤ 0 → turns last n step s ≡ s
unfolding turns
turn_none last n step s h = rw (none n h)
  where
    none : (n : ℕ) → n ≤ 0 → n ≡ 0
    none n h = omega arith
