-- The record check ends the entry, or the selector on the network decides.
use Rattle.std.proofs.Common.{refl}
use Rattle.refusals.proofs.Laws.{answer_ended, answer_went_on, or_else_refused}
use Rattle.interface.proofs.Lent.{unselected, selects_on}
use Rattle.operands.proofs.operand_selector.Goals as goal

pub returns-in_err-net : goal.returns-in_err-net
returns-in_err-net c =
    let h = rw c.in_err-net.was at c.new.ensures in
    record { value = answer_ended _ _ refl c.from_residual.ensures.1 h; lists_after = unselected (or_else_refused _ h) }

pub returns : goal.returns
returns c =
    let o = rw c.in_ok-net.was at c.new.ensures in
    let e = rw (o.layout, o.bytes) at c.selector_of.ensures in
    record { value = answer_went_on _ _ refl o.accepted e.value; lists_after = selects_on o.accepted e.lists_after }
