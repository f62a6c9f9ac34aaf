-- `count` meets its contract.
use mathlib.Core.Path.{refl}
use lib.ListN.{length}
use Rattle.seq.specs.Tab.Laws.{length_tab}
use Rattle.load.specs.Pilots.{pilot_at}
use Rattle.channel.specs.Power.{count_of}
use Rattle.channel.proofs.power.count.Goals as goal

pub returns : goal.returns
unfolding count_of
returns c =
    let p = c.args.pilots.now in
    rw (c.max.ensures, c.len.ensures, length_tab (pilot_at p.c.now p.g.now p.f.now) (length p.c.now)) refl
