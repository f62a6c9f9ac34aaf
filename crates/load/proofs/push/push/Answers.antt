-- `push` meets its contract: a value that is found, known or soft, is put. Assumes nothing.
use mathlib.Core.Path.{◌≡◌}
use mathlib.Core.Logic.{inl, inr}
use mathlib.Core.List.{[], ◌∷◌}
use borrow.Author.Rules.{rules}
use Rattle.load.specs.Load.{pushed}
use Rattle.load.proofs.Storing.{one_pushes}
use Rattle.load.proofs.push.push.Goals as goal

pub returns-in-Known : goal.returns-in-Known
returns-in-Known c =
    let a = c.args in
    let one : pushed a.c a.g a.y a.f ≡ c.pilot_of.result ∷ [] = elim c.in-Known.is [ inl e ↦ rw (e, c.pilot_of.ensures) | inr e ↦ rw (e, c.pilot_of.ensures) ] in
    rw one (one_pushes (search rules) (search rules) (search rules) c.put.ensures)
