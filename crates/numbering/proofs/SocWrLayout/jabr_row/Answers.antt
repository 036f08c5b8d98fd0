-- `numbering::SocWrLayout::jabr_row` meets its contract: the rows follow where their block starts. Assumes nothing.
use Rattle.std.proofs.Common.{arith}
use Rattle.numbering.proofs.Entered.{jabr-number}
use Rattle.numbering.proofs.SocWrLayout.jabr_row.Goals as goal

pub returns : goal.returns
returns c =
    let a = c.args in
    let number = jabr-number a.self a.e a.place in
    omega (arith, c.row_start.ensures.value)
