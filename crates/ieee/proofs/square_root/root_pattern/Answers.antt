-- A subnormal pattern is raised first.
use Rattle.std.proofs.Common.{sym}
use Rattle.ieee.proofs.RootCases.{raised, root_subnormal, root_normal, leading_hidden, below_hidden, from_hidden}
use Rattle.ieee.proofs.square_root.root_pattern.Goals as goal

pub overflow_sub-z : goal.overflow_sub-z
overflow_sub-z g c =
    let f = g.T.Binary.format in
    let h = g.met.T.Binary.hidden_is in
    rw (c.HIDDEN-then-e-eq0.ensures, h, leading_hidden f) (raised f c.args.b c.requires.0 (below_hidden f c.args.b (rw (c.HIDDEN.ensures, h) at c.if-e-eq0.true))).enough

pub root_parts-requires-clause-digits : goal.root_parts-requires-clause-digits
root_parts-requires-clause-digits g c =
    let f = g.T.Binary.format in
    let h = g.met.T.Binary.hidden_is in
    let up = raised f c.args.b c.requires.0 (below_hidden f c.args.b (rw (c.HIDDEN.ensures, h) at c.if-e-eq0.true)) in
    rw (c.HIDDEN-then-e-eq0.ensures, h, leading_hidden f, up.whole) (up.least, up.most)

pub returns-then-e-eq0-clause-root : goal.returns-then-e-eq0-clause-root
returns-then-e-eq0-clause-root g c =
    let f = g.T.Binary.format in
    let h = g.met.T.Binary.hidden_is in
    rw (c.root_parts.ensures.root, c.HIDDEN-then-e-eq0.ensures, h, leading_hidden f, c.LARGEST.ensures, g.met.T.Binary.largest_is)
    (sym (root_subnormal f c.args.b c.requires.0 (below_hidden f c.args.b (rw (c.HIDDEN.ensures, h) at c.if-e-eq0.true))))

pub returns-clause-root : goal.returns-clause-root
returns-clause-root g c =
    let f = g.T.Binary.format in
    let h = g.met.T.Binary.hidden_is in
    rw (c.root_parts-2.ensures.root, c.HIDDEN.ensures, c.HIDDEN-2.ensures, c.HIDDEN-3.ensures, h, c.LARGEST-2.ensures, g.met.T.Binary.largest_is)
    (sym (root_normal f c.args.b (from_hidden f c.args.b (rw (c.HIDDEN.ensures, h) at c.if-e-eq0.false)) c.requires.1))
