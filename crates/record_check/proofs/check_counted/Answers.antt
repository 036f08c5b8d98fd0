-- The length ends the check, or the records decide.
use Rattle.std.proofs.Common.{sym, ◌∙◌, eqb-true}
use Rattle.records.specs.Check.{length_cause}
use Rattle.refusals.proofs.Laws.{ends, went_on, or_else_assoc, test-held}
use Rattle.record_check.proofs.check_counted.Goals as goal

pub returns-in_err-refuse_unless : goal.returns-in_err-refuse_unless
unfolding length_cause
returns-in_err-refuse_unless c = ends _ c.from_residual.ensures.1 c.in_err-refuse_unless.was c.refuse_unless.ensures ∙ sym (or_else_assoc _ _ _)

pub record_causes-requires : goal.record_causes-requires
record_causes-requires c =
    let r = c.requires in
    (r.0, r.1, r.2, r.3, r.4, eqb-true _ _ (test-held _ _ (sym c.refuse_unless.ensures ∙ c.in_ok-refuse_unless.was)))

pub returns : goal.returns
unfolding length_cause
returns c = went_on c.refuse_unless.ensures c.in_ok-refuse_unless.was c.record_causes.ensures ∙ sym (or_else_assoc _ _ _)
