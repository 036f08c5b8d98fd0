-- 6 of z ends the check, or the room decides.
use Rattle.refusals.proofs.Laws.{ends, went_on}
use Rattle.reading.proofs.pricing.prices_cause.Goals as goal

pub returns-in_err-z_cause : goal.returns-in_err-z_cause
returns-in_err-z_cause c = ends _ c.from_residual.ensures.1 c.in_err-z_cause.was c.z_cause.ensures

pub returns : goal.returns
returns c = went_on c.z_cause.ensures c.in_ok-z_cause.was c.room_for.ensures
