-- The first list that is too short ends the check.
use Rattle.refusals.proofs.Laws.{ends, went_on}
use Rattle.entries.specs.Answer.{room_cause}
use Rattle.entries.proofs.room_cause.Goals as goal

pub returns-in_err-room_for : goal.returns-in_err-room_for
unfolding room_cause
returns-in_err-room_for c = ends _ c.from_residual.ensures.1 c.in_err-room_for.was c.room_for.ensures

pub returns-in_err-room_for-2 : goal.returns-in_err-room_for-2
unfolding room_cause
returns-in_err-room_for-2 c =
    went_on c.room_for.ensures c.in_ok-room_for.was
    (ends _ c.from_residual-in_err-room_for-2.ensures.1 c.in_err-room_for-2.was c.room_for-2.ensures)

pub returns : goal.returns
unfolding room_cause
returns c = went_on c.room_for.ensures c.in_ok-room_for.was (went_on c.room_for-2.ensures c.in_ok-room_for-2.was c.room_for-3.ensures)
