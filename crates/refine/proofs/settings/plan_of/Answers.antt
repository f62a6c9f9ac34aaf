-- `plan_of` meets its contract.
use mathlib.Core.Path.{refl}
use Rattle.points.proofs.Laws.{points_laws}
use Rattle.refine.proofs.settings.plan_of.Goals as goal

pub returns : goal.returns
returns c =
    rw (
      c.held_k.ensures.same,
      c.mean_energy.ensures,
      c.points-p.ensures,
      (points_laws c.args.s.constellation).bits,
      c.new.ensures,
      c.gain-gain.ensures,
      c.data_carriers-dc.ensures,
      c.ng-ng.ensures,
      c.layout-l.ensures,
    )
    refl
