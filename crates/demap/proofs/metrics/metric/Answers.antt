-- `metric` asks ln for a variance, which is not below 1e-30.
use Rattle.ieee.proofs.Orders.{max_laws}
use Rattle.demap.proofs.metrics.metric.Goals as goal

pub ln-requires : goal.ln-requires
ln-requires c = rw c.max-v.ensures (max_laws.second _ _)
