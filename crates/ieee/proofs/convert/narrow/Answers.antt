use Rattle.std.proofs.Common.{Bool, not, T, is_nan, sym, ap, ◌∙◌, subst}
use lib.Ieee.{binary32, binary64}
use lib.Ieee.Bits.{nan_bits_is}
use Rattle.ieee.specs.Narrow.{narrowed}
use Rattle.ieee.proofs.Floats.{back, number, number_pattern, nan_answer, narrowed_nan, narrowed_no_nan}
use Rattle.ieee.proofs.convert.narrow.Goals as goal

pub returns-then-is_nan : goal.returns-then-is_nan
returns-then-is_nan c = nan_answer binary32 narrowed c.args.x narrowed_nan c.if-is_nan.ensures.value

pub narrow_bits-requires : goal.narrow_bits-requires
narrow_bits-requires c = number_pattern binary64 c.args.x (subst T (sym c.well_formed.0.1) tt) (number c.args.x c.if-is_nan.ensures.value)

pub float_from_bits-result : goal.float_from_bits-result
float_from_bits-result c =
    let x = c.args.x in
    subst (λ (t : Bool). T (not t)) (sym (nan_bits_is binary32 c.narrow_bits.result ∙ ap is_nan (c.narrow_bits.ensures ∙ ap narrowed (back binary64 x c.well_formed.0.1))))
    (narrowed_no_nan x (number x c.if-is_nan.ensures.value))

pub returns : goal.returns
returns c = c.narrow_bits.ensures ∙ ap narrowed (back binary64 c.args.x c.well_formed.0.1)
