-- 1, then 7 past the block's length, and else the number.
use Rattle.std.proofs.Common.{◌<◌, sym, ap, ◌∙◌, arith, get_or, ltb-true, Ok}
use Rattle.refusals.proofs.Laws.{ends, went_on, test-held}
use Rattle.numbering.specs.Numbering.{column_many}
use Rattle.numbering.specs.Layout.{layout_columns, sizes_of}
use Rattle.numbering.specs.Lookups.{in_layout}
use Rattle.numbering.proofs.Layouts.{in_range}
use Rattle.numbering.proofs.Entered.{plain-records, plain-columns, column-most}
use Rattle.numbering.proofs.SocWrLayout.plain_column.Goals as goal

pub returns-in_err-cause : goal.returns-in_err-cause
unfolding in_layout
returns-in_err-cause c = ends _ c.from_residual.ensures.1 c.in_err-cause.was c.cause.ensures

pub returns-in_err-refuse_unless : goal.returns-in_err-refuse_unless
unfolding in_layout
returns-in_err-refuse_unless c =
    let a = c.args in
    let many = plain-records (layout_columns a.self) column_many (plain-columns a.self) a.block (omega arith) in
    went_on c.cause.ensures c.in_ok-cause.was
    (ends _ c.from_residual-in_err-refuse_unless.ensures.1 c.in_err-refuse_unless.was (rw (c.column_sizes-sizes.ensures, many) at c.refuse_unless.ensures))

pub column_at-requires : goal.column_at-requires
column_at-requires c =
    let a = c.args in
    let ok = in_range _ (sym c.cause.ensures ∙ c.in_ok-cause.was) in
    let inside : a.i < get_or (sizes_of (layout_columns a.self)) a.block 0 =
    ltb-true _ _ (test-held _ _ (sym (rw c.column_sizes-sizes.ensures at c.refuse_unless.ensures) ∙ c.in_ok-refuse_unless.was)) in
    record { in_range = ok; block_lt_column_many = (omega arith, omega (arith, column-most a.self ok a.block)) }

pub returns : goal.returns
unfolding in_layout
returns c =
    let a = c.args in
    let many = plain-records (layout_columns a.self) column_many (plain-columns a.self) a.block (omega arith) in
    went_on c.cause.ensures c.in_ok-cause.was
    (went_on (rw (c.column_sizes-sizes.ensures, many) at c.refuse_unless.ensures) c.in_ok-refuse_unless.was (ap Ok c.column_at.ensures))
