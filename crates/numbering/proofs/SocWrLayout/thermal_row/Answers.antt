-- `numbering::SocWrLayout::thermal_row` meets its contract: the rows follow where their block starts. Assumes nothing.
use Rattle.std.proofs.Common.{arith}
use Rattle.numbering.proofs.Entered.{thermal-number}
use Rattle.numbering.proofs.SocWrLayout.thermal_row.Goals as goal

pub returns : goal.returns
returns c =
    let a = c.args in
    let number = thermal-number a.self a.rank a.place in
    omega (arith, c.row_start.ensures.value)
