-- `fold_half` by the state of its loop, whatever its step means.
use mathlib.Core.Path.{◌∙◌, ap}
use borrow.Author.Rules.{rules}
use native.Mathlib.Omega.{arith}
use lib.Ieee.{nan}
use Rattle.std.proofs.lemmas.List.{length-take, get_or-take}
use Rattle.seq.specs.Loop.Laws.{for_none, for_step, for_end}
use Rattle.demap.specs.Shared.{half_of}
use Rattle.demap.proofs.Folds.{taken, passed}
use Rattle.demap.proofs.halves.ByLabel.fold_half.Goals as goal
use Rattle.demap.proofs.halves.ByLabel.fold_half.Goals.{then-bit, else-bit}

pub loop-k-init : goal.loop-k-init
loop-k-init g c = λ f post. for_none _ 0 _

pub loop-k-preserved : goal.loop-k-preserved
loop-k-preserved g c = λ f post.
    let n = c.count.result in
    let d = c.args.self.now.at in
    let k = c.loop-k.k in
    let x = get_or-take n d k nan (omega (arith, length-take n d)) in
    for_step _ 0 k _ _ _ (search rules) (c.loop-k.invariant f post)
    (elim c.if-bit.branch [
      | then-bit w ↦ taken _ _ _ _ _ _ _ _ _ c.bit.ensures w.if-bit.true (w.s-is ∙ post _ _ _ w.step-s.ensures ∙ ap (f c.loop-k.s) x)
      | else-bit w ↦ passed _ _ _ _ _ _ _ _ _ c.bit.ensures w.if-bit.false w.s-is
    ])

pub returns : goal.returns
unfolding half_of
returns g c = λ f post.
    let all = length-take c.count.result c.args.self.now.at in
    rw (← c.count.ensures.exact) (for_end _ 0 c.loop-k.k c.count.result _ _ (omega (arith, all)) (omega (arith, all)) (c.loop-k.invariant f post))
