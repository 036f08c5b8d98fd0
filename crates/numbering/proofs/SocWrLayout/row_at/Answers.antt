-- `numbering::SocWrLayout::row_at` meets its contract: a block's rows follow its start. Assumes nothing.
use Rattle.std.proofs.Common.{arith}
use Rattle.numbering.specs.Numbering.{jabr_rows}
use Rattle.numbering.specs.Layout.{layout_rows}
use Rattle.numbering.proofs.Entered.{plain-number, plain_rows}
use Rattle.numbering.proofs.SocWrLayout.row_at.Goals as goal

pub returns : goal.returns
returns c =
    let a = c.args in
    let number = plain-number (layout_rows a.self) jabr_rows (plain_rows a.self) a.block a.i (omega arith) in
    omega (arith, c.row_start.ensures.value)
