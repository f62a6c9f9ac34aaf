-- `push_bits` meets its contract: the highest digits stand in front.
use Rattle.std.proofs.Common.{refl, arith}
use Rattle.header.proofs.Digits.{push_end}
use Rattle.header.proofs.bit_list.push_bits.Goals as goal

pub returns : goal.returns
returns c = let l = c.loop-i in push_end _ _ l.i _ _ (omega arith) (omega arith) refl l.invariant.written
