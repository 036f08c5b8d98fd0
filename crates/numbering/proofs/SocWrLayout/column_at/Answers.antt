-- `numbering::SocWrLayout::column_at` meets its contract: a block's columns follow its start. Assumes nothing.
use Rattle.std.proofs.Common.{arith}
use Rattle.numbering.specs.Numbering.{column_many}
use Rattle.numbering.specs.Layout.{layout_columns}
use Rattle.numbering.proofs.Entered.{plain-number, plain-columns}
use Rattle.numbering.proofs.SocWrLayout.column_at.Goals as goal

pub returns : goal.returns
returns c =
    let a = c.args in
    let number = plain-number (layout_columns a.self) column_many (plain-columns a.self) a.block a.i (omega arith) in
    omega (arith, c.column_start.ensures.value)
