use Rattle.std.proofs.Common.{◌∙◌}
use Rattle.ieee.proofs.Rooting.{root_finite}
use Rattle.ieee.proofs.square_root.root_parts.Goals as goal

pub returns-clause-finite : goal.returns-clause-finite
returns-clause-finite g c =
    let h = g.met.T.Binary.hidden_is in
    root_finite g.T.Binary.format c.args.m c.args.w c.settle-r.result _ _ (c.HIDDEN.ensures ∙ h) (c.HIDDEN-2.ensures ∙ h) c.requires.digits.0 c.requires.digits.1 c.requires.exponent c.settle-r.ensures.0
