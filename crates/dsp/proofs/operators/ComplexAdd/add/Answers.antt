use mathlib.Core.Path.{refl}
use Rattle.dsp.specs.Arithmetic.{◌+ᶜ◌}
use Rattle.dsp.proofs.operators.ComplexAdd.add.Goals as goal

pub returns : goal.returns
unfolding ◌+ᶜ◌
returns c = refl
