-- 10 by the first list that is too short, and else written.
use Rattle.std.proofs.Common.{refl, sym, ◌∙◌, arith}
use Rattle.refusals.proofs.Laws.{has_room}
use Rattle.quadratic.proofs.Quad.{quad_count_lem, quad_starts}
use Rattle.program.proofs.Answers.{short-starts, short-entries, entries-fit, columns-written}
use Rattle.program.proofs.sized.put_p.Goals as goal

pub returns-in_err-room_for : goal.returns-in_err-room_for
returns-in_err-room_for c =
    let net = c.args.net.now in
    let hs = quad_starts net.layout net.bytes.now net.laid in
    short-starts refl (omega (arith, hs, c.column_count.ensures)) c.room_for.ensures c.in_err-room_for.was c.from_residual.ensures.1

pub returns-in_err-entries_room : goal.returns-in_err-entries_room
returns-in_err-entries_room c =
    let net = c.args.net.now in
    let hs = quad_starts net.layout net.bytes.now net.laid in
    let starts = has_room _ _ (sym c.room_for.ensures ∙ c.in_ok-room_for.was) in
    let count = c.count_p.ensures ∙ sym (quad_count_lem net.layout net.bytes.now net.laid) in
    short-entries refl (omega (arith, hs, c.column_count.ensures, starts)) count
    c.entries_room.ensures c.in_err-entries_room.was c.from_residual-in_err-entries_room.ensures.1

pub returns : goal.returns
returns c =
    let net = c.args.net.now in
    let hs = quad_starts net.layout net.bytes.now net.laid in
    let starts = has_room _ _ (sym c.room_for.ensures ∙ c.in_ok-room_for.was) in
    let count = c.count_p.ensures ∙ sym (quad_count_lem net.layout net.bytes.now net.laid) in
    let fit = entries-fit c.entries_room.ensures c.in_ok-entries_room.was in
    columns-written refl (omega (arith, hs, c.column_count.ensures, starts)) (omega (arith, count, fit)) (omega (arith, count, fit)) c.fill_p-written.ensures
