-- `on_circle` asks sin and cos for an angle that they take.
use Rattle.points.specs.Constellation.{angle}
use Rattle.points.proofs.Angles.{angle_in_turns}
use Rattle.points.proofs.constellation.on_circle.Goals as goal

pub cos-requires : goal.cos-requires
unfolding angle
cos-requires c = angle_in_turns c.args.m c.requires

pub sin-requires : goal.sin-requires
unfolding angle
sin-requires c = angle_in_turns c.args.m c.requires
