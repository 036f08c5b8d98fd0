use Rattle.refusals.proofs.Laws.{ends, went_on}
use Rattle.program.proofs.sized.entries_room.Goals as goal

pub returns-in_err-room_for : goal.returns-in_err-room_for
returns-in_err-room_for c = ends _ c.from_residual.ensures.1 c.in_err-room_for.was c.room_for.ensures

pub returns : goal.returns
returns c = went_on c.room_for.ensures c.in_ok-room_for.was c.room_for-2.ensures
