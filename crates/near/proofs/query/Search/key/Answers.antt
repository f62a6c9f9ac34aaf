-- `key` meets its contract: the two terms are those of the distance.
use Rattle.std.proofs.Common.{◌∙◌}
use Rattle.near.proofs.Terms.{key_of}
use Rattle.near.proofs.query.Search.key.Goals as goal

pub returns : goal.returns
returns c = c.bits_of.ensures ∙ key_of c.args.self.now.span c.requires.0 c.args.i c.requires.1 c.requires.2
