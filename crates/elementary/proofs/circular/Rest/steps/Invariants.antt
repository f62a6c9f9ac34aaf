use Rattle.std.proofs.Common.{◌≡◌, ◌-◌, ◌≤◌}
use Rattle.elementary.specs.FixedPoint.{B, turns}
use Rattle.elementary.specs.Circular.{sin_turn, sin_sum, cos_turn, cos_sum}
use Rattle.elementary.proofs.circular.Rest.steps.Given as goal

-- the turns that are left, from s, give what all give from one
abbrev pub invariant-loop-j : goal.invariant-loop-j
invariant-loop-j g l = record {
  sin : g.row.K ≡ 0 → turns 1 (l.j - 1) (sin_turn l.self.g) l.s ≡ sin_sum l.self.g;
  cos : g.row.K ≡ 1 → turns 2 (l.j - 1 - 1) (cos_turn l.self.g) l.s ≡ cos_sum l.self.g;
  most : l.s ≤ B;
}
