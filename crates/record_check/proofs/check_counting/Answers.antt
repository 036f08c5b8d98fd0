-- A count ends the check, or what is left of it decides.
use Rattle.std.proofs.Common.{refl, sym, ◌∙◌, arith}
use Rattle.records.specs.Check.{check_of}
use Rattle.records.proofs.Causes.{counts_in_range}
use Rattle.refusals.proofs.Laws.{ends, went_on, or_else_assoc}
use Rattle.record_check.proofs.Parts.{least}
use Rattle.record_check.proofs.check_counting.Goals as goal

pub returns-in_err-count_cause : goal.returns-in_err-count_cause
unfolding check_of
returns-in_err-count_cause c = ends _ c.from_residual.ensures.1 c.in_err-count_cause.was c.count_cause.ensures ∙ sym (or_else_assoc _ _ _)

pub check_counted-requires : goal.check_counted-requires
check_counted-requires c =
    let b = counts_in_range _ _ _ _ (sym c.count_cause.ensures ∙ c.in_ok-count_cause.was) in
    (b.0, b.1, b.2, b.3, omega (arith, c.min.ensures ∙ least c.args.e c.args.case.m))

pub returns : goal.returns
unfolding check_of
returns c =
    went_on c.count_cause.ensures c.in_ok-count_cause.was (c.check_counted.ensures ∙ rw (c.min.ensures, least c.args.e c.args.case.m) refl)
    ∙ sym (or_else_assoc _ _ _)
