use Rattle.std.proofs.Common.{refl, sym, ◌∙◌}
use Rattle.replay.proofs.Agreeing.{told_same, not_other, joined}
use Rattle.replay.proofs.entry.holds.Goals as goal

pub returns : goal.returns
returns c = λ e. joined c.args.out.now c.args.answer.now c.args.page.now _ refl (not_other c.if-ne.ensures) (told_same (sym e ∙ c.eq.ensures))
