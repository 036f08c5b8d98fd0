-- The first count that is too large ends the check.
use Rattle.records.specs.Check.{count_cause}
use Rattle.refusals.proofs.Laws.{ends, went_on}
use Rattle.record_check.proofs.count_cause.Goals as goal

pub returns-in_err-refuse_unless : goal.returns-in_err-refuse_unless
unfolding count_cause
returns-in_err-refuse_unless c = ends _ c.from_residual.ensures.1 c.in_err-refuse_unless.was c.refuse_unless.ensures

pub returns-in_err-refuse_unless-2 : goal.returns-in_err-refuse_unless-2
unfolding count_cause
returns-in_err-refuse_unless-2 c =
    went_on c.refuse_unless.ensures c.in_ok-refuse_unless.was
    (ends _ c.from_residual-in_err-refuse_unless-2.ensures.1 c.in_err-refuse_unless-2.was c.refuse_unless-2.ensures)

pub returns-in_err-refuse_unless-3 : goal.returns-in_err-refuse_unless-3
unfolding count_cause
returns-in_err-refuse_unless-3 c =
    went_on c.refuse_unless.ensures c.in_ok-refuse_unless.was
    (went_on c.refuse_unless-2.ensures c.in_ok-refuse_unless-2.was
    (ends _ c.from_residual-in_err-refuse_unless-3.ensures.1 c.in_err-refuse_unless-3.was c.refuse_unless-3.ensures))

pub returns : goal.returns
unfolding count_cause
returns c =
    went_on c.refuse_unless.ensures c.in_ok-refuse_unless.was
    (went_on c.refuse_unless-2.ensures c.in_ok-refuse_unless-2.was
    (went_on c.refuse_unless-3.ensures c.in_ok-refuse_unless-3.was c.refuse_unless-4.ensures))
