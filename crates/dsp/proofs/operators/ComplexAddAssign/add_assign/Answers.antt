use mathlib.Core.Path.{refl}
use Rattle.dsp.specs.Arithmetic.{◌+ᶜ◌}
use Rattle.dsp.proofs.operators.ComplexAddAssign.add_assign.Goals as goal

pub returns : goal.returns
unfolding ◌+ᶜ◌
returns c = record { after = refl }
