-- `judge_under` meets its contract.
use Rattle.std.proofs.Common.{refl, arith}
use Rattle.refine.proofs.Sliced.{window_is, on_grid, fits_under}
use Rattle.refine.proofs.judging.Heard.judge_under.Goals as goal

pub invariant_of-e : goal.invariant_of-e
invariant_of-e c =
    let k = c.fit in
    let h = c.args.self in
    let q = c.requires in
    let w = window_is h _ _ q c.args.m k.result.0 k.ensures.model in
    record {
      on_grid = on_grid h _ _ q c.args.m k.result.0 k.ensures.model;
      in_rf = rw w (omega (arith, c.rf.ensures.long, k.ensures.long_rf));
      in_rt = rw w (omega (arith, c.rt.ensures.long, k.ensures.long_rt));
      width = rw w q.agrees.width;
      some = rw w q.agrees.some;
      most = rw w q.agrees.most;
    }

pub judge_with-requires-clause-fits : goal.judge_with-requires-clause-fits
judge_with-requires-clause-fits c = fits_under c.args.self _ _ c.requires c.args.m c.fit.result.0 c.fit.ensures.model _ refl refl

pub returns : goal.returns
returns c =
    let k = c.fit.ensures in
    rw (← k.model, ← k.carriers, ← k.symbols, ← c.rf.ensures.is, ← c.rt.ensures.is) c.judge_with.ensures
