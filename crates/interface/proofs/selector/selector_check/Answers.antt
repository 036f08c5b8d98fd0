-- Unlike or long lists end the check, or the room decides.
use Rattle.interface.specs.Selectors.{selector_check}
use Rattle.refusals.proofs.Laws.{ends, went_on}
use Rattle.interface.proofs.selector.selector_check.Goals as goal

pub returns-in_err-refuse_unless : goal.returns-in_err-refuse_unless
unfolding selector_check
returns-in_err-refuse_unless c = ends _ c.from_residual.ensures.1 c.in_err-refuse_unless.was c.refuse_unless.ensures

pub returns : goal.returns
unfolding selector_check
returns c = went_on c.refuse_unless.ensures c.in_ok-refuse_unless.was c.room.ensures
