-- `judge_symbols` meets its contract.
use mathlib.Core.Path.{◌≡◌}
use native.Mathlib.Omega.{arith}
use Rattle.refine.proofs.EachSymbol.{upto_none, upto_next}
use Rattle.refine.proofs.symbols.judge_symbols.Goals as goal

pub loop-t-init : goal.loop-t-init
loop-t-init c = upto_none c.args.j.now _ _

pub loop-t-preserved : goal.loop-t-preserved
loop-t-preserved c = upto_next c.args.j.now _ _ c.loop-t.t _ _ (c.symbol.ensures _ _ c.loop-t.invariant)

pub returns : goal.returns
returns c =
    let l = c.loop-t in
    let e : l.t ≡ c.args.j.now.shape.nsym = omega (arith, l.auto.t-end, c.loop-t-test.false) in
    rw e at l.invariant
