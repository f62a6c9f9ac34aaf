-- Of a pattern that turns: its period is not 0, and the lowest pilot of each symbol is below the step. Assumes nothing.
use Rattle.std.proofs.Common.{◌≡◌, ℕ, zero, suc, ◌*◌, ◌<◌, ◌≤◌, mod-lt, zero-lt-suc, mul-zero, zero-mul, arith}
use native.Mathlib.Nat.{mul-lt-mul_of_pos_left}
use Rattle.layout.specs.declared.pattern.Pattern.{Pattern}
use Rattle.layout.specs.Patterns.{first_pilot}
use Rattle.layout.specs.Fit.{Turning}

factors : (a b n : ℕ) → a * b ≡ n → 1 ≤ n → (0 < a) × (0 < b)
factors zero b n e h = absurd (omega (arith, zero-mul b))
factors (suc a) zero n e h = absurd (omega (arith, mul-zero (suc a)))
factors (suc a) (suc b) n e h = (zero-lt-suc a, zero-lt-suc b)

pub first_below : (p : Pattern) → Turning p → (g : ℕ) → first_pilot p g < p.step
unfolding first_pilot
first_below p t g =
    let f = factors p.shift p.period p.step t.turns (omega arith) in
    rw (← t.turns) (mul-lt-mul_of_pos_left (mod-lt g f.1) f.0)
