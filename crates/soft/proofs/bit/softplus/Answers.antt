-- `softplus` asks exp and ln_1p for what they take, by the two branches.
use mathlib.Core.Path.{sym}
use lib.Ieee.{of_bits}
use Rattle.elementary.proofs.Laws.{exp_laws}
use Rattle.soft.proofs.Costs.{not_above, neg_above, softplus_above, softplus_not_above}
use Rattle.soft.proofs.bit.softplus.Goals as goal

pub exp-requires : goal.exp-requires
unfolding of_bits
exp-requires c = neg_above c.args.x c.if-x.true

pub ln_1p-requires : goal.ln_1p-requires
unfolding of_bits
ln_1p-requires c = rw c.exp.ensures (exp_laws.within _)

pub returns-then-x : goal.returns-then-x
unfolding of_bits
returns-then-x c = rw (c.ln_1p.ensures, c.exp.ensures) (sym (softplus_above c.args.x c.if-x.true))

pub ln_1p-requires-2 : goal.ln_1p-requires-2
unfolding of_bits
ln_1p-requires-2 c = rw c.exp-2.ensures (exp_laws.within _)

pub returns : goal.returns
unfolding of_bits
returns c = rw (c.ln_1p-2.ensures, c.exp-2.ensures) (sym (softplus_not_above _ (not_above c.args.x c.if-x.false)))
