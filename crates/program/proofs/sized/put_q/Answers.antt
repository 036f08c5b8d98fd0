-- 10 where the list is too short, and else written.
use Rattle.std.proofs.Common.{refl, sym, ◌∙◌, arith}
use Rattle.refusals.proofs.Laws.{has_room}
use Rattle.quadratic.proofs.Linear.{linear-length}
use Rattle.program.proofs.Answers.{floats_short, floats_written}
use Rattle.program.proofs.sized.put_q.Goals as goal

pub returns-in_err-room_for : goal.returns-in_err-room_for
returns-in_err-room_for c =
    let net = c.args.net.now in
    let need = c.column_count-need.ensures ∙ sym (linear-length net.layout net.bytes.now net.laid) in
    floats_short refl need c.room_for.ensures c.in_err-room_for.was c.from_residual.ensures.1

pub fill_q-requires : goal.fill_q-requires
fill_q-requires c =
    let room = has_room _ _ (sym c.room_for.ensures ∙ c.in_ok-room_for.was) in
    omega (arith, room, c.column_count-need.ensures)

pub returns : goal.returns
returns c =
    let net = c.args.net.now in
    let need = c.column_count-need.ensures ∙ sym (linear-length net.layout net.bytes.now net.laid) in
    let room = has_room _ _ (sym c.room_for.ensures ∙ c.in_ok-room_for.was) in
    floats_written refl need (omega (arith, need, room)) c.fill_q.ensures
