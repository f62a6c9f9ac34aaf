use mathlib.Core.Path.{refl}
use Rattle.dsp.specs.Arithmetic.{scaleᶜ}
use Rattle.dsp.proofs.Complex.scale.Goals as goal

pub returns : goal.returns
unfolding scaleᶜ
returns c = refl
