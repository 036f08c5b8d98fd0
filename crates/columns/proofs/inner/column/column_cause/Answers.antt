-- The solution's lengths end the check, or the parameter; else the room decides.
use Rattle.columns.specs.Jacobian.{column_cause}
use Rattle.refusals.proofs.Laws.{ends, went_on}
use Rattle.columns.proofs.inner.column.column_cause.Goals as goal

pub returns-in_err-solution_cause : goal.returns-in_err-solution_cause
unfolding column_cause
returns-in_err-solution_cause c = ends _ c.from_residual.ensures.1 c.in_err-solution_cause.was c.solution_cause.ensures

pub returns-in_err-parameter_cause : goal.returns-in_err-parameter_cause
unfolding column_cause
returns-in_err-parameter_cause c =
    went_on c.solution_cause.ensures c.in_ok-solution_cause.was
    (ends _ c.from_residual-in_err-parameter_cause.ensures.1 c.in_err-parameter_cause.was c.parameter_cause.ensures)

pub returns : goal.returns
unfolding column_cause
returns c =
    went_on c.solution_cause.ensures c.in_ok-solution_cause.was
    (went_on c.parameter_cause.ensures c.in_ok-parameter_cause.was (rw c.dim.ensures at c.room_for.ensures))
