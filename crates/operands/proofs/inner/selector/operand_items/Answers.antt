-- An operand that SOCWR lacks ends the check, or a list that is too short.
use Rattle.std.proofs.Common.{sym, ap, Ok, ◌∙◌, arith}
use Rattle.refusals.proofs.Laws.{or_else_assoc, ends, ends_by, went_on, went_on_by, held_by}
use Rattle.elements.proofs.Counted.{length-held}
use Rattle.operands.specs.Selector.{operand_cause}
use Rattle.operands.proofs.Numbers.{items-few}
use Rattle.operands.proofs.inner.selector.operand_items.Goals as goal

pub returns-in_err-items : goal.returns-in_err-items
unfolding operand_cause
returns-in_err-items c =
    let e = length-held _ _ _ c.operand_length.ensures c.ok_or.ensures.value in
    ends_by _ _ e _ c.from_residual.ensures.1 c.in_err-items.was ∙ sym (or_else_assoc _ _ _)

pub room-requires : goal.room-requires
room-requires c =
    let w = c.args.net.now in
    let r = w.laid.range in
    let q = held_by _ _ (length-held _ _ _ c.operand_length.ensures c.ok_or.ensures.value) c.in_ok-items.was in
    omega (arith, items-few w.layout.n w.layout.m w.layout.k c.args.o r.n-range r.m-range r.k-range, q.1)

pub returns-in_err-room : goal.returns-in_err-room
unfolding operand_cause
returns-in_err-room c =
    let e = length-held _ _ _ c.operand_length.ensures c.ok_or.ensures.value in
    let out = c.from_residual-in_err-room.ensures.1 in
    let room = c.room.ensures in
    went_on_by _ _ e c.in_ok-items.was (λ q. ends _ out c.in_err-room.was (rw (← q) at room)) ∙ sym (or_else_assoc _ _ _)

pub returns : goal.returns
unfolding operand_cause
returns c =
    let e = length-held _ _ _ c.operand_length.ensures c.ok_or.ensures.value in
    let room = c.room.ensures in
    went_on_by _ _ e c.in_ok-items.was (λ q. went_on (rw (← q) at room) c.in_ok-room.was (ap Ok (sym q))) ∙ sym (or_else_assoc _ _ _)
