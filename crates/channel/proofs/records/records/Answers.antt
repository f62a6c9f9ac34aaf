-- `records` has pushed the pilots from lo up to i.
use Rattle.std.proofs.Common.{◌≡◌, ◌∙◌, refl, arith, ◌+◌, ◌-◌, length, drop, length-drop}
use Rattle.std.proofs.lemmas.List.{take_more, get_or-drop}
use Rattle.seq.specs.Tab.Laws.{length_tab}
use Rattle.load.specs.Pilots.{listed, pilot_at}
use Rattle.load.specs.Load.{nothing}
use Rattle.channel.proofs.records.records.Goals as goal

pub loop-i-preserved : goal.loop-i-preserved
loop-i-preserved c =
    let x = c.args in
    let p = x.pilots.now in
    let i = c.loop-i.i in
    let e : i + 1 - x.lo ≡ i - x.lo + 1 = omega arith in
    let e' : x.lo + (i - x.lo) ≡ i = omega arith in
    let n = length p.c.now in
    let all : length (listed p) ≡ n = length_tab (pilot_at p.c.now p.g.now p.f.now) n in
    c.push.ensures.items
    ∙ rw (c.loop-i.invariant, c.pilot.ensures, e, take_more (drop x.lo (listed p)) (i - x.lo) nothing (omega (arith, all, length-drop x.lo (listed p))), get_or-drop x.lo (listed p) (i - x.lo) nothing, e') refl
