use Rattle.std.proofs.Common.{ℕ, ◌∙◌}
use Rattle.std.specs.Io.KnownBytes.{Appends}
use lib.ListN.{length-replicate}
use Rattle.burst.proofs.Written.{written}
use Rattle.burst.proofs.answered.Goals as goal

pub returns : goal.returns
returns g c = written _ _ (Appends _ _) _ _ c.in_ok-n.ensures.bytes (c.read_full.auto.page ∙ length-replicate {A = ℕ} 8193 0) c.write_lines.ensures
