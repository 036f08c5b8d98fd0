-- The layout's counts are the network's, and the sum is a row of the KKT matrix.
use Rattle.std.proofs.Common.{◌≡◌, ap₂, ◌∙◌, ◌+◌, arith}
use Rattle.interface.specs.declared.Operand.TheVariants.{Price}
use Rattle.operands.specs.Selector.{selector_row}
use Rattle.elements.proofs.Balance.{balance-number}
use Rattle.operands.proofs.Numbers.{row-few}
use Rattle.numbering.specs.Network.{grid}
use Rattle.numbering.proofs.Laid.{laid-nvar}
use Rattle.operands.proofs.inner.selector.price_first.Goals as goal

pub overflow_add-result : goal.overflow_add-result
overflow_add-result c =
    let w = c.args.net.now in
    let power = c.args.power in
    let e : c.column_count.result + c.balance_row.result ≡ selector_row (grid w) (Price power) 0
    = ap₂ ◌+◌ (c.column_count.ensures ∙ laid-nvar _ _ w.laid) (c.balance_row.ensures ∙ balance-number w.layout w.bytes.now power 0) in
    omega (arith, e, row-few w.layout w.bytes.now w.laid (Price power))

pub returns : goal.returns
returns c =
    let w = c.args.net.now in
    ap₂ ◌+◌ (c.column_count.ensures ∙ laid-nvar _ _ w.laid) (c.balance_row.ensures ∙ balance-number w.layout w.bytes.now c.args.power 0)
