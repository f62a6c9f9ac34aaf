-- `soft_point` asks exp for no number above zero, since no logarithm of a probability is.
use lib.Ieee.{of_bits}
use Rattle.soft.proofs.Prefix.{log_side, log_read}
use Rattle.soft.proofs.moments.soft_point.Goals as goal

pub exp-requires : goal.exp-requires
unfolding of_bits
exp-requires c =
    let k = c.loop-k.k in
    rw (log_read _ _ _ _ k c.requires c.count.ensures.exact c.loop-k-test.true c.log_probabilities-lp.ensures) (log_side _ _ k)
