-- `sum_against` asks exp for no difference above zero, since no number of its half is above the largest.
use mathlib.Core.Path.{◌∙◌}
use borrow.Author.Rules.{rules}
use Rattle.std.proofs.lemmas.Bool.{eq-eqb}
use Rattle.ieee.specs.Num.{◌⊞◌, ◌⊟◌}
use Rattle.elementary.specs.Exp.{exp_at}
use Rattle.demap.proofs.Top.{asked}
use Rattle.demap.proofs.Folds.{sum_half}
use Rattle.demap.proofs.halves.ByLabel.sum_against.Goals as goal

pub fold_half-requires-clause-can : goal.fold_half-requires-clause-can
fold_half-requires-clause-can c = λ k h own s lifetimes at given u. rw c.requires.1 (asked _ _ _ _ k h (eq-eqb _ _ own))

pub returns : goal.returns
returns c = c.fold_half.ensures (λ s x. s ⊞ exp_at (x ⊟ c.args.m)) (λ s x r post. search rules) ∙ sum_half _ _ _ _ c.args.m c.requires.1
