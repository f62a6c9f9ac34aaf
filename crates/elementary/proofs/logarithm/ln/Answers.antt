use lib.Ieee.{binary32}
use Rattle.ieee.proofs.Floats.{nan_answer}
use Rattle.elementary.specs.Ln.{ln_at}
use Rattle.elementary.proofs.LnParts.{ln_at_nan}
use Rattle.elementary.proofs.logarithm.ln.Goals as goal

pub returns-then-is_nan : goal.returns-then-is_nan
returns-then-is_nan c = nan_answer binary32 ln_at c.args.v ln_at_nan c.if-is_nan.ensures.value
