-- `tried` meets its contract: the model is one of the layout's.
use Rattle.model.specs.Values.{FitModels}
use Rattle.model.specs.Select.{tried}
use Rattle.model.proofs.trial.Trial.tried.Goals as goal

pub score-requires : goal.score-requires
unfolding FitModels
score-requires c =
    let x = c.args.self.now in
    (x.fit, rw (c.fd_value-fd.ensures, c.tm_value-tm.ensures) (x.models x.setting.sparse _ _))

pub returns : goal.returns
unfolding tried
returns c = rw (c.score.ensures, c.fd_value-fd.ensures, c.tm_value-tm.ensures)
