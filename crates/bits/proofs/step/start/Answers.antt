-- `start` meets its contract: the cast is in range, and its steps round a half up.
use Rattle.std.proofs.Common.{◌≡◌, ◌+◌, ◌/◌, arith}
use Rattle.bits.specs.Step.{start_of}
use Rattle.bits.proofs.Rounding.{start_casts, start_is, start_le}
use Rattle.bits.proofs.step.start.Goals as goal
use Rattle.bits.proofs.step.start.Goals.{After-truncating_f64_to_u64-t}

pub truncating_f64_to_u64-t-requires : goal.truncating_f64_to_u64-t-requires
truncating_f64_to_u64-t-requires c =
    let casts = start_casts c.args.n (omega arith) (omega arith) in
    record { lower_bound = rw c.nearest_u64_to_f64-x.ensures casts.0; upper_bound = rw c.nearest_u64_to_f64-x.ensures casts.1 }

rounded : (c : After-truncating_f64_to_u64-t) → (c.truncating_f64_to_u64-t.result + 1) / 2 ≡ start_of c.args.n
rounded c = rw (c.truncating_f64_to_u64-t.ensures, c.nearest_u64_to_f64-x.ensures) (start_is c.args.n (omega arith) (omega arith))

pub overflow_add-result : goal.overflow_add-result
overflow_add-result c = omega (arith, rounded c, start_le c.args.n (omega arith) (omega arith))

pub returns : goal.returns
returns c = rounded c
