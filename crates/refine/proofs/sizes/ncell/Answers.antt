-- `ncell` meets its contract.
use mathlib.Core.Path.{ap, ◌∙◌}
use Rattle.layout.specs.Sizes.{ncell_of}
use Rattle.refine.proofs.Ready.{cells_most}
use Rattle.refine.proofs.sizes.ncell.Goals as goal

pub returns : goal.returns
returns c =
    let e = c.ncell.ensures ∙ ap (λ l. ncell_of l c.args.s.sparse c.args.s.nsym) c.layout-l.ensures in
    (e, rw e (cells_most c.args.s c.requires.0 c.requires.1))
