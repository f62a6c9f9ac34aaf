-- `add_pilot` may ask for the estimate: its pilot is in the grid.
use Rattle.model.proofs.Trials.{may_ask}
use Rattle.model.proofs.trial.add_pilot.Goals as goal

pub estimate_excl-others-requires : goal.estimate_excl-others-requires
estimate_excl-others-requires c = may_ask c.args.e.now c.args.i c.requires _ c.pilot-p.ensures
