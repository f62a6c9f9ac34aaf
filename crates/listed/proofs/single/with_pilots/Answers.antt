-- `with_pilots` meets its contract.
use Rattle.std.proofs.Common.{◌∙◌, arith}
use Rattle.listed.proofs.Asking.{window_is, estimated}
use Rattle.listed.proofs.single.with_pilots.Goals as goal

pub invariant_of-e : goal.invariant_of-e
invariant_of-e c =
    let k = c.fit in
    let m = c.requires.0 in
    let w = window_is c.args.a k.result.0 k.ensures.model in
    record {
      on_grid = rw w c.requires.1;
      in_rf = rw w (omega (arith, c.rf.ensures.long, k.ensures.long_rf));
      in_rt = rw w (omega (arith, c.rt.ensures.long, k.ensures.long_rt));
      width = rw w m.width;
      some = rw w m.some;
      most = rw w m.most;
    }

pub estimate-requires : goal.estimate-requires
estimate-requires c =
    let m = c.requires.0 in
    rw (window_is c.args.a c.fit.result.0 c.fit.ensures.model) (m.carrier, m.symbol)

pub returns : goal.returns
returns c =
    let k = c.fit in
    let e = k.ensures in
    estimated c.args.a k.result.0 e.model c.args.ps.now _ _ c.requires.0 c.requires.1 (c.rf.ensures.is ∙ e.carriers) (c.rt.ensures.is ∙ e.symbols) c.estimate.ensures
