-- `offset_of` meets its contract: the difference fits an i32.
use Rattle.near.proofs.Offsets.{offset_is}
use Rattle.near.proofs.distance.offset_of.Goals as goal

pub returns : goal.returns
returns c = offset_is c.args.a c.args.b c.requires.0 c.requires.1
