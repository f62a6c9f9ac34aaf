use Rattle.std.proofs.Common.{ℕ, ◌-◌, ◌*◌, ◌/◌, sym, refl, ap, ◌∙◌, arith, lit≤}
use Rattle.elementary.specs.FixedPoint.{B, turns}
use Rattle.elementary.specs.Circular.{sin_turn, sin_sum, cos_turn, cos_sum}
use Rattle.elementary.proofs.Turns.{turn_at, turn_none}
use Rattle.elementary.proofs.TurnBounds.{divisor_sin, divisor_cos}
use Rattle.elementary.proofs.circular.Rest.steps.Goals as goal

pub loop-j-init : goal.loop-j-init
unfolding sin_sum cos_sum
loop-j-init g c = record { sin = λ e. refl; cos = λ e. refl; most = lit≤ tt }

pub loop-j-preserved : goal.loop-j-preserved
loop-j-preserved g c =
    let l = c.loop-j in
    let j = l.j - 1 in
    let F = c.args.self.g in
    let by : ℕ → ℕ = λ d. B - F * l.s / B / d in
    record {
      sin = λ e.
          ap (λ d. turns 1 (j - 1) (sin_turn F) (by d)) (divisor_sin g.row.K j e)
          ∙ (turn_at 1 j j (sin_turn F) l.s (omega (arith, c.loop-j-test.true)) (omega arith) ∙ l.invariant.sin e);
      cos = λ e.
          ap (λ d. turns 2 (j - 1 - 1) (cos_turn F) (by d)) (divisor_cos g.row.K j e (omega (arith, c.loop-j-test.true)))
          ∙ (turn_at 2 (j - 1) j (cos_turn F) l.s (omega (arith, c.loop-j-test.true)) (omega (arith, c.loop-j-test.true)) ∙ l.invariant.cos e);
      most = omega arith;
    }

pub returns-clause-sin : goal.returns-clause-sin
returns-clause-sin g c = λ e. sym (turn_none 1 (c.loop-j.j - 1) (sin_turn c.args.self.g) c.loop-j.s (omega (arith, c.loop-j-test.false))) ∙ c.loop-j.invariant.sin e

pub returns-clause-cos : goal.returns-clause-cos
returns-clause-cos g c = λ e. sym (turn_none 2 (c.loop-j.j - 1 - 1) (cos_turn c.args.self.g) c.loop-j.s (omega (arith, c.loop-j-test.false))) ∙ c.loop-j.invariant.cos e
