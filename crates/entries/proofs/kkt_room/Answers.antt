-- Where the most entries have room, the list has.
use Rattle.std.proofs.Common.{sym, ◌∙◌}
use Rattle.entries.proofs.Answers.{passed_if, short, room-less}
use Rattle.entries.proofs.kkt_room.Goals as goal

pub returns-then-is_ok : goal.returns-then-is_ok
returns-then-is_ok c =
    let e = sym c.room_cause.ensures ∙ passed_if _ (sym c.is_ok.ensures.value ∙ c.if-is_ok.true) in
    sym (room-less _ _ _ (short c.args.p.now.given).0 (rw c.most.ensures at e))
