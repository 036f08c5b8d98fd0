-- Refused for the room alone; else the lengths stand at the front.
use Rattle.std.proofs.Common.{sym, ◌∙◌}
use Rattle.refusals.proofs.Laws.{ends, left_stopped, has_room, answer-held, left-written}
use Rattle.numbering.proofs.cones.cones_in.Goals as goal

pub returns-in_err-room_for : goal.returns-in_err-room_for
returns-in_err-room_for c =
    record {
      value = ends _ c.from_residual.ensures.1 c.in_err-room_for.was c.room_for.ensures;
      out_after = left_stopped c.room_for.ensures _ _ c.in_err-room_for.was;
    }

pub cones_into-requires : goal.cones_into-requires
cones_into-requires c = (c.requires, has_room _ _ (sym c.room_for.ensures ∙ c.in_ok-room_for.was))

pub returns : goal.returns
returns c =
    let ok = sym c.room_for.ensures ∙ c.in_ok-room_for.was in
    record { value = sym (answer-held _ ok); out_after = c.cones_into.ensures ∙ sym (left-written _ _ ok) }
