-- 1, then 7 past the blocks, and else the layout's own number.
use Rattle.std.proofs.Common.{sym, ap, ◌∙◌, ltb-true, Ok}
use Rattle.refusals.proofs.Laws.{ends, went_on, test-held}
use Rattle.numbering.proofs.Layouts.{in_range}
use Rattle.input.proofs.row_count.Goals as goal

pub returns-in_err-cause : goal.returns-in_err-cause
returns-in_err-cause c = ends _ c.from_residual.ensures.1 c.in_err-cause.was c.cause.ensures

pub returns-in_err-refuse_unless : goal.returns-in_err-refuse_unless
returns-in_err-refuse_unless c =
    went_on c.cause.ensures c.in_ok-cause.was
    (ends _ c.from_residual-in_err-refuse_unless.ensures.1 c.in_err-refuse_unless.was c.refuse_unless.ensures)

pub row_size-requires : goal.row_size-requires
row_size-requires c =
    let ok = in_range _ (sym c.cause.ensures ∙ c.in_ok-cause.was) in
    let inside = ltb-true _ _ (test-held _ _ (sym c.refuse_unless.ensures ∙ c.in_ok-refuse_unless.was)) in
    record { in_range = ok; block_lt_row_many = inside }

pub returns : goal.returns
returns c = went_on c.cause.ensures c.in_ok-cause.was (went_on c.refuse_unless.ensures c.in_ok-refuse_unless.was (ap Ok c.row_size.ensures))
