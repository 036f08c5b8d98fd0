-- The layout's cause ends the answer, or its size is the answer.
use Rattle.std.proofs.Common.{sym, ap, ◌∙◌, Ok}
use Rattle.refusals.proofs.Laws.{ends, went_on}
use Rattle.numbering.proofs.Layouts.{in_range}
use Rattle.numbering.proofs.SocWrLayout.nvar.Goals as goal

pub returns-in_err-cause : goal.returns-in_err-cause
returns-in_err-cause c = ends _ c.from_residual.ensures.1 c.in_err-cause.was c.cause.ensures

pub column_count-requires : goal.column_count-requires
column_count-requires c = in_range _ (sym c.cause.ensures ∙ c.in_ok-cause.was)

pub returns : goal.returns
returns c = went_on c.cause.ensures c.in_ok-cause.was (ap Ok c.column_count.ensures)
