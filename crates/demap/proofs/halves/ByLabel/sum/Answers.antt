-- `sum` folds by adding.
use mathlib.Core.Path.{◌∙◌}
use borrow.Author.Rules.{rules}
use Rattle.ieee.specs.Num.{◌⊞◌}
use Rattle.demap.proofs.Folds.{picked_half}
use Rattle.demap.proofs.halves.ByLabel.sum.Goals as goal

pub returns : goal.returns
returns c = c.fold_half.ensures (λ s x. s ⊞ x) (λ s x r post. search rules) ∙ picked_half _ _ _ _
