use Rattle.std.proofs.Common.{rules}
use Rattle.std.proofs.lemmas.Result.{err_from_is_err_and}
use Rattle.refine.specs.Received.{burst_of}
use Rattle.table.proofs.Passing.{turned_away}
use Rattle.table.proofs.refusal.verdict.Goals as goal

pub returns-in_err-settings_verdict : goal.returns-in_err-settings_verdict
returns-in_err-settings_verdict c =
    let p = err_from_is_err_and c.from_residual.result c.from_residual.ensures.1 in
    rw p.1 (turned_away (burst_of c.args.b.now) c.args.prior.now _ p.0 (search rules))
