-- `fit` meets its contract.
use Rattle.std.proofs.Common.{◌≡◌, refl}
use lib.Ieee.{Float}
use Rattle.near.specs.declared.query.Window.{Window}
use Rattle.est.specs.Correlations.{Models}
use Rattle.est.specs.declared.correlations.Correlations.{Correlations}
use Rattle.est.specs.declared.model.Numerology.{Numerology}
use Rattle.model.specs.declared.trial.Setting.{Setting}
use Rattle.model.specs.declared.select.Model.{Model}
use Rattle.model.specs.Values.{FitModels, numerology_of, window_of, fd_value, tm_value}
use Rattle.judge.specs.Fitted.{fitted_of, carrier_table, symbol_table, Fitting}
use Rattle.judge.proofs.fitted.fit.Goals as goal

pub set_model-t-requires : goal.set_model-t-requires
unfolding FitModels
set_model-t-requires c =
    rw (c.numerology.ensures, c.fd_value-fd.ensures, c.tm_value-tm.ensures) (c.requires c.args.s.sparse c.args.m.fd c.args.m.tm)

fits : (s : Setting) (m : Model) (l : Numerology) (fd tm : Float) (w : Window) (t : Correlations)
    → l ≡ numerology_of s.l → fd ≡ fd_value s.l s.sparse m.fd → tm ≡ tm_value s.l m.tm → w ≡ window_of s.l s.ng s.k
    → Models l fd tm t → Fitting s m (record { w = w; u = t.scales; scale = m.scale }) t
unfolding fitted_of carrier_table symbol_table
fits s m l fd tm w t el ef et ew k =
    record {
      model = rw (ew, k.set.scales, el, ef, et) refl;
      carriers = rw (k.set.along_carriers, el, et) refl;
      symbols = rw (k.set.along_symbols, el, ef) refl;
      long_rf = rw (k.carriers, el) refl;
      long_rt = rw (k.symbols, el) refl;
    }

pub returns : goal.returns
returns c =
    let a = c.args in
    fits a.s a.m _ _ _ _ _ c.numerology.ensures c.fd_value-fd.ensures c.tm_value-tm.ensures c.window.ensures c.set_model-t.ensures
