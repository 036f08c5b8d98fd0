-- The layout's cause ends the answer, or its size is the answer.
use Rattle.std.proofs.Common.{sym, ap, ◌∙◌, Ok}
use Rattle.refusals.proofs.Laws.{ends, went_on}
use Rattle.numbering.proofs.Layouts.{in_range}
use Rattle.numbering.proofs.SocWrLayout.n_ineq.Goals as goal

pub returns-in_err-cause : goal.returns-in_err-cause
returns-in_err-cause c = ends _ c.from_residual.ensures.1 c.in_err-cause.was c.cause.ensures

pub nonnegative_rows-requires : goal.nonnegative_rows-requires
nonnegative_rows-requires c = in_range _ (sym c.cause.ensures ∙ c.in_ok-cause.was)

pub returns : goal.returns
returns c = went_on c.cause.ensures c.in_ok-cause.was (ap Ok c.nonnegative_rows.ensures)
