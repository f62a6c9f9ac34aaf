use mathlib.Core.Path.{refl}
use Rattle.dsp.specs.Arithmetic.{negᶜ}
use Rattle.dsp.proofs.operators.ComplexNeg.neg.Goals as goal

pub returns : goal.returns
unfolding negᶜ
returns c = refl
