-- `estimates_by` meets its contract.
use Rattle.std.proofs.Common.{◌≡◌, ap, arith}
use Rattle.judge.specs.declared.estimates.Fitted.{Fitted}
use Rattle.model.specs.Values.{window_of}
use Rattle.model.specs.declared.trial.Setting.{Setting}
use Rattle.model.specs.declared.select.Model.{Model}
use Rattle.judge.specs.Fitted.{fitted_of}
use Rattle.bursts.specs.Estimating.{estimates_by}
use Rattle.bursts.proofs.estimates.estimates_by.Goals as goal

pub fit-requires : goal.fit-requires
fit-requires c = c.args.trial.now.models

window_is : (s : Setting) (m : Model) (f : Fitted) → f ≡ fitted_of s m → f.w ≡ window_of s.l s.ng s.k
unfolding fitted_of
window_is s m f e = ap (λ (f : Fitted). f.w) e

pub invariant_of-e : goal.invariant_of-e
invariant_of-e c =
    let x = c.args.trial.now in
    let k = c.fit in
    let w = window_is x.setting _ k.result.0 k.ensures.model in
    record {
      on_grid = rw w x.fit.loaded;
      in_rf = rw w (omega (arith, c.rf.ensures.long, k.ensures.long_rf));
      in_rt = rw w (omega (arith, c.rt.ensures.long, k.ensures.long_rt));
      width = rw w c.requires.layout.1;
      some = rw w x.fit.some;
      most = rw w x.fit.most;
    }

pub estimates_at-requires : goal.estimates_at-requires
estimates_at-requires c = (rw (window_is c.args.trial.now.setting _ c.fit.result.0 c.fit.ensures.model) c.requires.layout.0, c.requires.room)

pub returns : goal.returns
unfolding estimates_by
returns c =
    let m = c.fit.ensures in
    rw (c.estimates_at.ensures, c.rf.ensures.is, c.rt.ensures.is, m.carriers, m.symbols, ← m.model)
