-- The place in the symbol's part of the list is the place that the whole search finds.
use native.Mathlib.Omega.{arith}
use Rattle.judge.proofs.Finding.{placed_at}
use Rattle.judge.proofs.estimates.pilot_index.Goals as goal

pub returns-in_err-i : goal.returns-in_err-i
returns-in_err-i c =
    let a = c.args in
    rw c.from_residual.ensures (rw c.in_err-i.was at (placed_at a.carriers.now a.start.now a.c a.g _ _ c.start_of-lo.ensures c.start_of-hi.ensures (omega (arith, c.start_of-lo.ensures, c.start_of-hi.ensures, c.requires)) (omega (arith, c.start_of-hi.ensures, c.requires)) _ c.place_of.ensures.first))

pub returns : goal.returns
returns c =
    let a = c.args in
    rw c.in_ok-i.was at (placed_at a.carriers.now a.start.now a.c a.g _ _ c.start_of-lo.ensures c.start_of-hi.ensures (omega (arith, c.start_of-lo.ensures, c.start_of-hi.ensures, c.requires)) (omega (arith, c.start_of-hi.ensures, c.requires)) _ c.place_of.ensures.first)
