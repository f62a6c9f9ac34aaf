-- `single` meets its contract.
use Rattle.std.proofs.Common.{arith, length-take-le}
use Rattle.listed.proofs.Starts.{long_g, few, of_records, loaded_in}
use Rattle.listed.proofs.single.single.Goals as goal

pub starts-requires : goal.starts-requires
starts-requires c = let x = c.args in omega (arith, long_g x.a x.n x.w.now x.pf.now c.requires, few x.a x.n x.w.now x.pf.now c.requires)

pub with_pilots-requires : goal.with_pilots-requires
with_pilots-requires c =
    let x = c.args in
    let m = c.requires.may in
    (m, loaded_in x.a x.n x.w.now x.pf.now c.requires _ _ (length-take-le _ _ (omega (arith, m.symbols))) c.starts.ensures)

pub returns : goal.returns
returns c = let x = c.args in of_records x.a x.n x.w.now x.pf.now c.requires c.with_pilots.ensures
