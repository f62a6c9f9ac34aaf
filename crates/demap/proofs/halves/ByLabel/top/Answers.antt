-- `top` folds by max.
use mathlib.Core.Path.{◌∙◌}
use borrow.Author.Rules.{rules}
use lib.Ieee.{of_bits}
use Rattle.ieee.specs.Order.{max_of}
use Rattle.demap.proofs.Folds.{top_half}
use Rattle.demap.proofs.halves.ByLabel.top.Goals as goal

pub returns : goal.returns
unfolding of_bits
returns c = c.fold_half.ensures max_of (λ s x r post. search rules) ∙ top_half _ _ _ _
