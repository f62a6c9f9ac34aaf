-- `below` has counted those before the loop's index.
use Rattle.std.proofs.Common.{ℕ, ◌+◌, get_or, ltb, sym, arith}
use Rattle.listed.proofs.Sorted.{bool_few, none_yet, one_more}
use Rattle.listed.proofs.order.below.Goals as goal

pub loop-s-init : goal.loop-s-init
loop-s-init c = record { count = sym (none_yet (λ (i : ℕ). get_or c.args.pg.now i 0) c.args.g); few = omega arith }

pub loop-s-preserved : goal.loop-s-preserved
loop-s-preserved c =
    let l = c.loop-s in
    record {
      count = rw c.from-n.ensures (one_more (λ (i : ℕ). get_or c.args.pg.now i 0) c.args.g l.s-index l.n l.invariant.count);
      few = rw c.from-n.ensures (omega (arith, l.invariant.few, bool_few (ltb (get_or c.args.pg.now l.s-index 0) c.args.g)));
    }
