-- `elementary::ln_1p` meets its contract. Assumes nothing.
use lib.Ieee.Positive.{num, den}
use lib.Ieee.Scale.{finite}
use Rattle.elementary.specs.Domain.{Number}
use Rattle.elementary.specs.FixedPoint.{M, whole_of}
use Rattle.elementary.specs.Ln.{odd_of, ln1p_at}
use Rattle.elementary.proofs.WholePart.{field_of, in_unit, unit_bounded, unit_whole}
use Rattle.elementary.proofs.LnParts.{t_lt, ln1p_at_nan, ln1p_at_is}
use Rattle.ieee.proofs.Floats.{back, number, nan_answer}
use Rattle.std.proofs.Common.{◌≡◌, ℕ, ◌+◌, ◌*◌, ◌/◌, ◌≤◌, false, T, sym, ap, ◌∙◌, subst, arith}
use lib.Ieee.{binary32, round}
use Rattle.elementary.proofs.logarithm.ln_1p.Goals as goal
use Rattle.elementary.proofs.logarithm.ln_1p.Goals.{After-fixed_bits-q, Else-is_nan}

no_nan : (c : Else-is_nan) → Number c.args.t
no_nan c = number c.args.t c.if-is_nan.ensures.value

sure : (c : Else-is_nan) → T (finite c.args.t) × (num c.args.t ≤ den c.args.t)
sure c = in_unit c.args.t (no_nan c) c.requires

size : (c : After-fixed_bits-q) → c.fixed_bits-q.result ≡ whole_of M c.args.t
size c = c.fixed_bits-q.ensures ∙ ap (whole_of M) (back binary32 c.args.t c.well_formed.0.1)

most : (c : After-fixed_bits-q) → c.fixed_bits-q.result ≤ M
most c = subst (λ (q : ℕ). q ≤ M) (sym (size c)) (unit_whole c.args.t (sure c.before))

pub returns-then-is_nan : goal.returns-then-is_nan
returns-then-is_nan c = nan_answer binary32 ln1p_at c.args.t ln1p_at_nan c.if-is_nan.ensures.value

pub fixed_bits-q-requires : goal.fixed_bits-q-requires
fixed_bits-q-requires c = field_of c.args.t c.well_formed.0.1 (no_nan c) (unit_bounded c.args.t (sure c))

pub overflow_mul-q : goal.overflow_mul-q
overflow_mul-q c = omega (arith, most c)

pub overflow_add-q : goal.overflow_add-q
overflow_add-q c = omega (arith, most c)

pub odd-requires : goal.odd-requires
odd-requires c = t_lt c.fixed_bits-q.result (most c)

pub returns : goal.returns
returns c =
    let t = c.args.t in
    let q = c.fixed_bits-q.result in
    c.over_m.ensures
    ∙ ap (λ (x : ℕ). round binary32 false x M) (c.odd.ensures.0 ∙ ap (λ (x : ℕ). odd_of (2 * (x * 2147483648 / (8589934592 + x)))) (size c.before.before))
    ∙ sym (ln1p_at_is t (sure c.before.before.before).0)
