-- `elementary::exp` meets its contract. Assumes nothing.
use Rattle.std.proofs.Common.{◌≡◌, ℕ, ◌*◌, ◌/◌, ◌^◌, ◌≤◌, false, sym, ap, ◌∙◌, subst, arith}
use lib.Ieee.{binary32, lt, round}
use Rattle.elementary.specs.Constants.{minus87}
use Rattle.elementary.specs.Domain.{Number}
use Rattle.elementary.specs.FixedPoint.{M, L, whole_of}
use Rattle.elementary.specs.Exp.{exp_fixed, exp_at}
use Rattle.ieee.proofs.Floats.{back, number, nan_answer}
use Rattle.elementary.proofs.WholePart.{Bounded, bounded, whole_le, field_of}
use Rattle.elementary.proofs.PowerScale.{power_no_nan, scaled}
use Rattle.elementary.proofs.ExpCases.{exp_nan, exp_below, exp_from, exp_fixed_lem}
use Rattle.elementary.proofs.exponential.exp.Goals as goal
use Rattle.elementary.proofs.exponential.exp.Goals.{After-fixed_bits-q, Else-is_nan, Else-x}

no_nan : (c : Else-is_nan) → Number c.args.x
no_nan c = number c.args.x c.if-is_nan.ensures.value

above_least : (c : Else-x) → lt c.args.x minus87 ≡ false
above_least c = c.if-x.false

sure : (c : Else-x) → Bounded c.args.x
sure c = bounded c.args.x (no_nan c.before) c.requires (above_least c)

size : (c : After-fixed_bits-q) → c.fixed_bits-q.result ≡ whole_of M c.args.x
size c = c.fixed_bits-q.ensures ∙ ap (whole_of M) (back binary32 c.args.x c.well_formed.0.1)

most : (c : After-fixed_bits-q) → c.fixed_bits-q.result ≤ 87 * M
most c = subst (λ (q : ℕ). q ≤ 87 * M) (sym (size c)) (whole_le c.args.x (sure c.before))

turns : (q : ℕ) → q ≤ 87 * M → q / L ≤ 125
turns q h = omega arith

pub returns-then-is_nan : goal.returns-then-is_nan
returns-then-is_nan c = nan_answer binary32 exp_at c.args.x exp_nan c.if-is_nan.ensures.value

pub returns-then-x : goal.returns-then-x
returns-then-x c = sym (exp_below c.args.x (no_nan c.before) c.if-x.true)

pub fixed_bits-q-requires : goal.fixed_bits-q-requires
fixed_bits-q-requires c = field_of c.args.x c.well_formed.0.1 (no_nan c.before) (sure c)

pub overflow_sub-n : goal.overflow_sub-n
overflow_sub-n c = omega (arith, turns c.fixed_bits-q.result (most c.before.before.before))

pub float_from_bits-n : goal.float_from_bits-n
float_from_bits-n c = power_no_nan (c.fixed_bits-q.result / L) (turns c.fixed_bits-q.result (most c.before.before.before))

pub returns : goal.returns
returns c =
    let h = c.horner-p in
    let w = c.before.before.before in
    let q = w.fixed_bits-q.result in
    let n = q / L in
    let x = c.args.x in
    c.narrow.ensures
    ∙ scaled h.result n h.ensures.1.0 h.ensures.1.1 (turns q (most w))
    ∙ ap (λ (p : ℕ). round binary32 false p (M * 2 ^ n)) h.ensures.0
    ∙ sym (exp_from x (sure w.before).0 (above_least w.before) ∙ ap exp_fixed (sym (size w)) ∙ exp_fixed_lem q)
