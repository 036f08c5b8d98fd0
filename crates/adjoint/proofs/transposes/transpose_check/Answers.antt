-- Lists that don't fit end the check, or the first that has no room.
use Rattle.refusals.proofs.Laws.{ends, went_on}
use Rattle.adjoint.specs.Checks.{transpose_check}
use Rattle.adjoint.proofs.transposes.transpose_check.Goals as goal

pub returns-in_err-refuse_unless : goal.returns-in_err-refuse_unless
unfolding transpose_check
returns-in_err-refuse_unless c =
    let fits = rw c.transpose_fits.ensures at c.refuse_unless.ensures in
    ends _ c.from_residual.ensures.1 c.in_err-refuse_unless.was fits

pub returns-in_err-room_for : goal.returns-in_err-room_for
unfolding transpose_check
returns-in_err-room_for c =
    let fits = rw c.transpose_fits.ensures at c.refuse_unless.ensures in
    went_on fits c.in_ok-refuse_unless.was
    (ends _ c.from_residual-in_err-room_for.ensures.1 c.in_err-room_for.was c.room_for.ensures)

pub returns-in_err-room_for-2 : goal.returns-in_err-room_for-2
unfolding transpose_check
returns-in_err-room_for-2 c =
    let fits = rw c.transpose_fits.ensures at c.refuse_unless.ensures in
    went_on fits c.in_ok-refuse_unless.was
    (went_on c.room_for.ensures c.in_ok-room_for.was
    (ends _ c.from_residual-in_err-room_for-2.ensures.1 c.in_err-room_for-2.was c.room_for-2.ensures))

pub returns : goal.returns
unfolding transpose_check
returns c =
    let fits = rw c.transpose_fits.ensures at c.refuse_unless.ensures in
    went_on fits c.in_ok-refuse_unless.was
    (went_on c.room_for.ensures c.in_ok-room_for.was
    (went_on c.room_for-2.ensures c.in_ok-room_for-2.was c.room_for-3.ensures))
