-- `probes::probe_load` meets its contract.
use Rattle.probes.proofs.Loadings.{taken}
use Rattle.probes.proofs.pilots.probe_load.Goals as goal

pub load-requires : goal.load-requires
load-requires c = c.no_room.ensures.yes c.if-no_room.false

pub invariant_of-l : goal.invariant_of-l
invariant_of-l c = record { fit = c.source_of-source.ensures.fit _ _ _ (c.short.ensures.yes c.if-short.false) }

pub returns : goal.returns
returns c = taken c.source_of-source.ensures.is (record { symbols = c.if-s-gt1023.false; long = c.short.ensures.yes c.if-short.false; room = c.no_room.ensures.yes c.if-no_room.false }) c.load.ensures
