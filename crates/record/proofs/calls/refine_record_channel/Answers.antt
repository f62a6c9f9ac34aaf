-- `refine_record_channel` meets its contract: each refusal leaves with its number.
use Rattle.std.proofs.Common.{sym, arith}
use Rattle.std.proofs.lemmas.Grind.{common_steps}
use Rattle.record.proofs.Cutting.{sized}
use Rattle.record.proofs.Answering.{bad_shape, no_answer, no_channel}
use Rattle.record.proofs.calls.refine_record_channel.Goals as goal

pub returns-in_err-z : goal.returns-in_err-z
returns-in_err-z c = grind (arith, common_steps, bad_shape c.args.«record».now c.args.out.now c.args.channel.now _ c.in_err-z.ensures.refused)

pub overflow_mul-z : goal.overflow_mul-z
overflow_mul-z c = record { fits = omega (arith, sized _ _ c.in_ok-z.ensures.refused c.in_ok-z.ensures.accepted) }

pub overflow_add-z : goal.overflow_add-z
overflow_add-z c = record { fits = omega (arith, sized _ _ c.in_ok-z.ensures.refused c.in_ok-z.ensures.accepted) }

pub returns-then-out-z : goal.returns-then-out-z
returns-then-out-z c =
    no_answer _ _ _ (sym c.in_ok-z.ensures.refused) (omega (arith, c.if-out-z.true, sized _ _ c.in_ok-z.ensures.refused c.in_ok-z.ensures.accepted))

pub overflow_mul-z-2 : goal.overflow_mul-z-2
overflow_mul-z-2 c = record { fits = omega (arith, sized _ _ c.in_ok-z.ensures.refused c.in_ok-z.ensures.accepted) }

pub overflow_mul-z-3 : goal.overflow_mul-z-3
overflow_mul-z-3 c = record { fits = omega (arith, sized _ _ c.in_ok-z.ensures.refused c.in_ok-z.ensures.accepted) }

pub returns-then-channel_room-z : goal.returns-then-channel_room-z
returns-then-channel_room-z c =
    let s = sized _ _ c.in_ok-z.ensures.refused c.in_ok-z.ensures.accepted in
    no_channel _ _ _ (sym c.in_ok-z.ensures.refused) (omega (arith, c.if-out-z.false, s)) (omega (arith, c.if-channel_room-z.true, s))

pub judge_record-requires-clause-out_room : goal.judge_record-requires-clause-out_room
judge_record-requires-clause-out_room c = omega (arith, c.if-out-z.false, sized _ _ c.in_ok-z.ensures.refused c.in_ok-z.ensures.accepted)

pub judge_record-requires-clause-channel_room : goal.judge_record-requires-clause-channel_room
judge_record-requires-clause-channel_room c = omega (arith, c.if-channel_room-z.false, sized _ _ c.in_ok-z.ensures.refused c.in_ok-z.ensures.accepted)
