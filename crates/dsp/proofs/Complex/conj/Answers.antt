use mathlib.Core.Path.{refl}
use Rattle.dsp.specs.Arithmetic.{conjᶜ}
use Rattle.dsp.proofs.Complex.conj.Goals as goal

pub returns : goal.returns
unfolding conjᶜ
returns c = refl
