-- The first count that is too large ends the check.
use Rattle.numbering.specs.Layout.{layout_cause}
use Rattle.refusals.proofs.Laws.{ends, went_on}
use Rattle.numbering.proofs.SocWrLayout.cause.Goals as goal

pub returns-in_err-count_cause : goal.returns-in_err-count_cause
unfolding layout_cause
returns-in_err-count_cause c = ends _ c.from_residual.ensures.1 c.in_err-count_cause.was c.count_cause.ensures

pub returns-in_err-refuse_unless : goal.returns-in_err-refuse_unless
unfolding layout_cause
returns-in_err-refuse_unless c =
    went_on c.count_cause.ensures c.in_ok-count_cause.was
    (ends _ c.from_residual-in_err-refuse_unless.ensures.1 c.in_err-refuse_unless.was c.refuse_unless.ensures)

pub returns : goal.returns
unfolding layout_cause
returns c =
    went_on c.count_cause.ensures c.in_ok-count_cause.was
    (went_on c.refuse_unless.ensures c.in_ok-refuse_unless.was c.refuse_unless-2.ensures)
