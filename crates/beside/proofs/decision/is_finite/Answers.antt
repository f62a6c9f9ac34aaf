-- `is_finite` meets its contract.
use Rattle.std.proofs.Common.{rules}
use Rattle.beside.specs.Decisions.{isFiniteᶜ}
use Rattle.beside.proofs.decision.is_finite.Goals as goal

pub returns-then-is_finite : goal.returns-then-is_finite
unfolding isFiniteᶜ
returns-then-is_finite c = search rules

pub returns-else-is_finite : goal.returns-else-is_finite
unfolding isFiniteᶜ
returns-else-is_finite c = search rules
