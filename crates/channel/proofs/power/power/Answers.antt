-- `power` meets its contract.
use mathlib.Core.Path.{refl}
use lib.ListN.{length}
use Rattle.seq.specs.Tab.Laws.{length_tab}
use Rattle.load.specs.Pilots.{listed, pilot_at}
use Rattle.channel.specs.Power.{count_of, power_by, channel_power}
use Rattle.channel.proofs.Summing.{powers_are, variances_are}
use Rattle.channel.proofs.power.power.Goals as goal

pub returns : goal.returns
unfolding channel_power power_by count_of
returns c =
    let p = c.args.pilots.now in
    let n = length p.c.now in
    rw (c.max-2.ensures, c.max.ensures, c.variances.ensures, variances_are (listed p) n, c.powers.ensures, powers_are (listed p) n, c.count-count.ensures, length_tab (pilot_at p.c.now p.g.now p.f.now) n) refl
