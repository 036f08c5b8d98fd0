-- The first cause that is found ends the check; where none is, the rest of it is the answer.
use Rattle.records.specs.Check.{branch_cause}
use Rattle.refusals.proofs.Laws.{ends, went_on}
use Rattle.record_causes.proofs.inner.branch_cause.Goals as goal

pub returns-in_err-refuse_unless : goal.returns-in_err-refuse_unless
unfolding branch_cause
returns-in_err-refuse_unless c = ends _ c.from_residual.ensures.1 c.in_err-refuse_unless.was (rw c.branch_form.ensures at c.refuse_unless.ensures)

pub returns-in_err-refuse_unless-2 : goal.returns-in_err-refuse_unless-2
unfolding branch_cause
returns-in_err-refuse_unless-2 c =
    went_on (rw c.branch_form.ensures at c.refuse_unless.ensures) c.in_ok-refuse_unless.was
    (ends _ c.from_residual-in_err-refuse_unless-2.ensures.1 c.in_err-refuse_unless-2.was (rw (c.br_from-from.ensures, c.br_to-to.ensures) at c.refuse_unless-2.ensures))

pub returns : goal.returns
unfolding branch_cause
returns c =
    went_on (rw c.branch_form.ensures at c.refuse_unless.ensures) c.in_ok-refuse_unless.was
    (went_on (rw (c.br_from-from.ensures, c.br_to-to.ensures) at c.refuse_unless-2.ensures) c.in_ok-refuse_unless-2.was (cc c.refuse_unless-3.ensures))
