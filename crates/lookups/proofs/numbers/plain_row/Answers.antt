-- 7 past the block's length or its one place, and else the layout's number.
use Rattle.std.proofs.Common.{ℕ, ◌<◌, ap, ◌∙◌, get_or, arith, Some, Ok}
use Rattle.refusals.proofs.Laws.{ends, went_on}
use Rattle.numbering.specs.Network.{grid}
use Rattle.numbering.specs.Layout.{layout_rows, sizes_of}
use Rattle.numbering.proofs.Entered.{row-most}
use Rattle.numbering.proofs.Tables.{laid-row-block, laid-row-key}
use Rattle.lookups.proofs.Asked.{ask_row}
use Rattle.lookups.proofs.numbers.plain_row.Goals as goal

pub returns-in_err-below : goal.returns-in_err-below
returns-in_err-below c =
    let a = c.args in
    let w = a.net.now in
    let G = grid w in
    let here = laid-row-block w.layout w.bytes.now w.laid a.x.block c.requires in
    ends _ c.from_residual.ensures.1 c.in_err-below.was (rw c.row_sizes-sizes.ensures at c.below.ensures.value)
    ∙ ask_row G a.x.block a.x.item a.x.place _ c.requires here

pub returns-in_err-below-2 : goal.returns-in_err-below-2
returns-in_err-below-2 c =
    let a = c.args in
    let w = a.net.now in
    let G = grid w in
    let here = laid-row-block w.layout w.bytes.now w.laid a.x.block c.requires in
    went_on (rw c.row_sizes-sizes.ensures at c.below.ensures.value) c.in_ok-below.was
    (ends _ c.from_residual-in_err-below-2.ensures.1 c.in_err-below-2.was c.below-2.ensures.value)
    ∙ ask_row G a.x.block a.x.item a.x.place _ c.requires here

pub row_at-requires : goal.row_at-requires
row_at-requires c =
    let a = c.args in
    let w = a.net.now in
    let inside : a.x.item < get_or (sizes_of (layout_rows w.layout)) a.x.block 0 = rw (c.in_ok-below.was, c.row_sizes-sizes.ensures) at c.below.ensures.in_range in
    record { in_range = w.laid.range; block_lt_jabr_rows = (omega arith, omega (arith, row-most w.layout w.laid.range a.x.block)) }

pub returns : goal.returns
returns c =
    let a = c.args in
    let w = a.net.now in
    let G = grid w in
    let here = laid-row-block w.layout w.bytes.now w.laid a.x.block c.requires in
    let number = c.row_at.ensures ∙ laid-row-key w.layout w.bytes.now w.laid a.x.block a.x.item c.requires in
    went_on (rw c.row_sizes-sizes.ensures at c.below.ensures.value) c.in_ok-below.was
    (went_on c.below-2.ensures.value c.in_ok-below-2.was (ap (λ (p : ℕ). Ok (Some p)) number))
    ∙ ask_row G a.x.block a.x.item a.x.place _ c.requires here
