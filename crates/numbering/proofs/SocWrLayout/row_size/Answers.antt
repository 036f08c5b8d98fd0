-- `numbering::SocWrLayout::row_size` meets its contract: a block's rows are its length among the lengths. Assumes nothing.
use Rattle.std.proofs.Common.{ap, ◌∙◌, List, arith, get_or}
use Rattle.numbering.specs.Layout.{layout_rows}
use Rattle.numbering.proofs.Entered.{size-at, row-most}
use Rattle.numbering.proofs.SocWrLayout.row_size.Goals as goal

pub overflow_cast-result : goal.overflow_cast-result
overflow_cast-result c =
    let a = c.args in
    let here = ap (λ (ws : List _). get_or ws a.block 0) c.row_sizes-sizes.ensures in
    omega (arith, row-most a.self c.requires.in_range a.block)

pub returns : goal.returns
returns c =
    let a = c.args in
    ap (λ (ws : List _). get_or ws a.block 0) c.row_sizes-sizes.ensures ∙ size-at (layout_rows a.self) a.block
