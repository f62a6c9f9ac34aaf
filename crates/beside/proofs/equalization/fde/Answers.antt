-- `fde` meets its contract: nothing is written before both tests have passed the call.
use mathlib.Core.Path.{sym, ◌∙◌}
use Rattle.beside.proofs.Equalizing.{room, some, made}
use Rattle.beside.proofs.equalization.fde.Goals as goal

pub new-requires : goal.new-requires
new-requires c =
    let a = c.args in
    some a.y.now a.h.now a.v.now a.gain a.z.now (sym c.if-bad_lengths.false ∙ c.bad_lengths.ensures)

pub fde-requires : goal.fde-requires
fde-requires c =
    let a = c.args in
    rw c.new.ensures.0 (room a.y.now a.h.now a.v.now a.gain a.z.now (sym c.if-bad_lengths.false ∙ c.bad_lengths.ensures))

pub returns : goal.returns
returns c =
    made _ _ _ _ _ (sym c.if-bad_lengths.false ∙ c.bad_lengths.ensures) (sym c.if-bad_numbers.false ∙ c.bad_numbers.ensures) _ _ _ c.new.ensures.1 (rw c.new.ensures.0 at c.fde.ensures)
