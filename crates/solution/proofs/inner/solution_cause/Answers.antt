-- x's cause ends the check, or z's is the answer.
use Rattle.solution.specs.Lengths.{solution_cause}
use Rattle.refusals.proofs.Laws.{ends, went_on}
use Rattle.solution.proofs.inner.solution_cause.Goals as goal

pub returns-in_err-x_cause : goal.returns-in_err-x_cause
unfolding solution_cause
returns-in_err-x_cause c = ends _ c.from_residual.ensures.1 c.in_err-x_cause.was c.x_cause.ensures

pub returns : goal.returns
unfolding solution_cause
returns c = went_on c.x_cause.ensures c.in_ok-x_cause.was c.z_cause.ensures
