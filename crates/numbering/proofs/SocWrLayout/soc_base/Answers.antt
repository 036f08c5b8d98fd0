-- The layout's cause ends the answer, or the row is the answer.
use Rattle.std.proofs.Common.{sym, ap, ◌∙◌, arith, Ok}
use Rattle.refusals.proofs.Laws.{ends, went_on}
use Rattle.numbering.proofs.Layouts.{in_range}
use Rattle.numbering.proofs.SocWrLayout.soc_base.Goals as goal

pub returns-in_err-cause : goal.returns-in_err-cause
returns-in_err-cause c = ends _ c.from_residual.ensures.1 c.in_err-cause.was c.cause.ensures

pub jabr_row-requires : goal.jabr_row-requires
jabr_row-requires c = record { in_range = in_range _ (sym c.cause.ensures ∙ c.in_ok-cause.was); e_le_m = (omega arith, omega arith) }

pub returns : goal.returns
returns c = went_on c.cause.ensures c.in_ok-cause.was (ap Ok c.jabr_row.ensures)
