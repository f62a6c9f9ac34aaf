-- By what the pattern looks like.
use Rattle.std.proofs.Common.{sym, ◌∙◌}
use Rattle.ieee.proofs.Floats.{nan_ne}
use Rattle.ieee.proofs.RootCases.{at_nan, at_zero, of_pattern, at_high, at_negative, infinity_is}
use Rattle.ieee.proofs.square_root.sqrt.Goals as goal

pub returns-then-is_nan : goal.returns-then-is_nan
returns-then-is_nan g c = at_nan g.T.Binary.format _ (nan_ne _ ∙ sym c.is_nan.ensures ∙ c.if-is_nan.true)

pub returns-then-b-eq0 : goal.returns-then-b-eq0
returns-then-b-eq0 g c = at_zero g.T.Binary.format _ c.to_pattern-b.ensures.held (sym c.to_pattern-b.ensures.pattern ∙ c.if-b-eq0.true)

pub returns-then-b-SIGN : goal.returns-then-b-SIGN
returns-then-b-SIGN g c = c.of_pattern.ensures ∙ of_pattern g.T.Binary.format _ c.to_pattern-b.ensures.held _ (rw c.to_pattern-b.ensures.pattern at c.root_pattern.ensures.root)

pub returns-then-b-SIGN-2 : goal.returns-then-b-SIGN-2
returns-then-b-SIGN-2 g c =
    let f = g.T.Binary.format in
    let b = c.to_pattern-b.ensures.pattern in
    let s = g.met.T.Binary.sign_is in
    at_high f _ c.to_pattern-b.ensures.held (nan_ne _ ∙ sym c.is_nan.ensures ∙ c.if-is_nan.false)
    (rw (c.SIGN.ensures, s, c.HIDDEN.ensures, g.met.T.Binary.hidden_is, infinity_is f, b) at c.if-b-SIGN.false)
    (rw (c.SIGN-2.ensures, s, b) at c.if-b-SIGN-2.true)

pub returns : goal.returns
returns g c =
    c.not_a_number.ensures
    ∙ sym
    (at_negative g.T.Binary.format _ c.to_pattern-b.ensures.held (nan_ne _ ∙ sym c.is_nan.ensures ∙ c.if-is_nan.false)
    (rw (c.SIGN-2.ensures, g.met.T.Binary.sign_is, c.to_pattern-b.ensures.pattern) at c.if-b-SIGN-2.false))
