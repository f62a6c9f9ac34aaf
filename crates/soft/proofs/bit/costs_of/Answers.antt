-- `costs_of` by the sign of the prior.
use lib.Ieee.{of_bits}
use Rattle.soft.specs.Soft.{cost_of}
use Rattle.elementary.proofs.Laws.{exp_laws}
use Rattle.soft.proofs.Costs.{neg_above, zero_above, one_above, zero_below, one_below}
use Rattle.soft.proofs.bit.costs_of.Goals as goal

pub exp-requires : goal.exp-requires
unfolding of_bits
exp-requires c = neg_above c.args.lam c.if-lam.true

pub ln_1p-t-requires : goal.ln_1p-t-requires
unfolding of_bits
ln_1p-t-requires c = rw c.exp.ensures (exp_laws.within _)

pub returns-then-lam : goal.returns-then-lam
unfolding of_bits
returns-then-lam c =
    let lam = c.args.lam in
    let e = c.if-lam.true in
    rw (c.ln_1p-t.ensures, c.exp.ensures) (zero_above lam e, one_above lam e)

pub ln_1p-t-requires-then-lam-2 : goal.ln_1p-t-requires-then-lam-2
unfolding of_bits
ln_1p-t-requires-then-lam-2 c = rw c.exp-then-lam-2.ensures (exp_laws.within _)

pub returns-then-lam-2 : goal.returns-then-lam-2
unfolding of_bits
returns-then-lam-2 c =
    let lam = c.args.lam in
    let e = c.if-lam-2.true in
    rw (c.ln_1p-t-then-lam-2.ensures, c.exp-then-lam-2.ensures) (zero_below lam e, one_below lam e)

pub returns : goal.returns
unfolding cost_of
returns c = (c.softplus.ensures, c.softplus-2.ensures)
