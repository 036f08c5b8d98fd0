-- The first list that is too short ends the check.
use Rattle.interface.specs.Selectors.{selector_room}
use Rattle.refusals.proofs.Laws.{ends, went_on}
use Rattle.interface.proofs.SelectorLists.room.Goals as goal

pub returns-in_err-room_for : goal.returns-in_err-room_for
unfolding selector_room
returns-in_err-room_for c = ends _ c.from_residual.ensures.1 c.in_err-room_for.was c.room_for.ensures

pub returns-in_err-room_for-2 : goal.returns-in_err-room_for-2
unfolding selector_room
returns-in_err-room_for-2 c =
    went_on c.room_for.ensures c.in_ok-room_for.was
    (ends _ c.from_residual-in_err-room_for-2.ensures.1 c.in_err-room_for-2.was c.room_for-2.ensures)

pub returns-in_err-room_for-3 : goal.returns-in_err-room_for-3
unfolding selector_room
returns-in_err-room_for-3 c =
    went_on c.room_for.ensures c.in_ok-room_for.was
    (went_on c.room_for-2.ensures c.in_ok-room_for-2.was
    (ends _ c.from_residual-in_err-room_for-3.ensures.1 c.in_err-room_for-3.was c.room_for-3.ensures))

pub returns : goal.returns
unfolding selector_room
returns c =
    went_on c.room_for.ensures c.in_ok-room_for.was
    (went_on c.room_for-2.ensures c.in_ok-room_for-2.was
    (went_on c.room_for-3.ensures c.in_ok-room_for-3.was c.room_for-4.ensures))
