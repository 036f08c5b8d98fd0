-- An arm for each operand.
use Rattle.std.proofs.Common.{◌∙◌}
use Rattle.operands.proofs.Numbers.{dispatch_number, flow-number}
use Rattle.operands.proofs.inner.selector.first_row.Goals as goal

pub returns-in-Dispatch : goal.returns-in-Dispatch
returns-in-Dispatch c =
    let w = c.args.net.now in
    rw c.in-Dispatch.is (c.dispatch_first.ensures ∙ dispatch_number w.layout w.bytes.now w.laid c.in-Dispatch.power 0)

pub returns-in-Flow : goal.returns-in-Flow
returns-in-Flow c =
    let w = c.args.net.now in
    rw c.in-Flow.is (c.flow_first.ensures ∙ flow-number w.layout w.bytes.now w.laid c.in-Flow.power c.in-Flow.end 0)
