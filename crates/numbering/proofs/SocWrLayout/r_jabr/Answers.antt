-- 1, then 7 past the branches, and else the first of the branch's rows.
use Rattle.std.proofs.Common.{sym, ap, ◌∙◌, arith, ltb-true, Ok}
use Rattle.refusals.proofs.Laws.{ends, went_on, test-held}
use Rattle.numbering.specs.Numbering.{row_table}
use Rattle.numbering.specs.Layout.{layout_rows}
use Rattle.numbering.specs.Lookups.{in_layout}
use Rattle.numbering.proofs.Layouts.{in_range}
use Rattle.numbering.proofs.SocWrLayout.r_jabr.Goals as goal

pub returns-in_err-cause : goal.returns-in_err-cause
unfolding in_layout
returns-in_err-cause c = ends _ c.from_residual.ensures.1 c.in_err-cause.was c.cause.ensures

pub returns-in_err-refuse_unless : goal.returns-in_err-refuse_unless
unfolding in_layout layout_rows row_table
returns-in_err-refuse_unless c =
    went_on c.cause.ensures c.in_ok-cause.was
    (ends _ c.from_residual-in_err-refuse_unless.ensures.1 c.in_err-refuse_unless.was c.refuse_unless.ensures)

pub jabr_row-requires : goal.jabr_row-requires
jabr_row-requires c =
    let inside = ltb-true _ _ (test-held _ _ (sym c.refuse_unless.ensures ∙ c.in_ok-refuse_unless.was)) in
    record { in_range = in_range _ (sym c.cause.ensures ∙ c.in_ok-cause.was); e_le_m = (omega arith, omega arith) }

pub returns : goal.returns
unfolding in_layout layout_rows row_table
returns c =
    went_on c.cause.ensures c.in_ok-cause.was
    (went_on c.refuse_unless.ensures c.in_ok-refuse_unless.was (ap Ok c.jabr_row.ensures))
