-- `twiddle` asks for the cosine and the sine of an angle that they are defined at.
use Rattle.spread.proofs.Angles.{asked}
use Rattle.spread.proofs.twiddle.twiddle.Goals as goal

pub cos-requires : goal.cos-requires
cos-requires c = rw c.angle-a.ensures (asked c.args.m c.args.k c.requires.0 c.requires.1)

pub sin-requires : goal.sin-requires
sin-requires c = rw c.angle-a.ensures (asked c.args.m c.args.k c.requires.0 c.requires.1)
