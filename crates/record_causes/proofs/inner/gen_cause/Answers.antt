-- The first cause that is found ends the check; where none is, the rest of it is the answer.
use Rattle.records.specs.Check.{gen_cause}
use Rattle.refusals.proofs.Laws.{ends, went_on}
use Rattle.record_causes.proofs.inner.gen_cause.Goals as goal

pub returns-in_err-refuse_unless : goal.returns-in_err-refuse_unless
unfolding gen_cause
returns-in_err-refuse_unless c = ends _ c.from_residual.ensures.1 c.in_err-refuse_unless.was (rw c.gen_form.ensures at c.refuse_unless.ensures)

pub returns : goal.returns
unfolding gen_cause
returns c = went_on (rw c.gen_form.ensures at c.refuse_unless.ensures) c.in_ok-refuse_unless.was (cc c.refuse_unless-2.ensures)
