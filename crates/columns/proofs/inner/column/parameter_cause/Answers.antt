-- A parameter that SOCWR lacks ends the check, or an index past its axis; else its cost decides.
use Rattle.std.proofs.Common.{sym, ◌∙◌, ltb-true, arith}
use Rattle.refusals.proofs.Laws.{ends, ends_by, went_on, went_on_by, held_by, test-held}
use Rattle.elements.proofs.Counted.{length-held}
use Rattle.columns.specs.Jacobian.{parameter_cause}
use Rattle.columns.proofs.inner.column.parameter_cause.Goals as goal

pub returns-in_err-items : goal.returns-in_err-items
unfolding parameter_cause
returns-in_err-items c =
    let e = length-held _ _ _ c.parameter_length.ensures c.ok_or.ensures.value in
    ends_by _ _ e _ c.from_residual.ensures.1 c.in_err-items.was

pub returns-in_err-refuse_unless : goal.returns-in_err-refuse_unless
unfolding parameter_cause
returns-in_err-refuse_unless c =
    let e = length-held _ _ _ c.parameter_length.ensures c.ok_or.ensures.value in
    let out = c.from_residual-in_err-refuse_unless.ensures.1 in
    went_on_by _ _ e c.in_ok-items.was (λ q. ends _ out c.in_err-refuse_unless.was (rw (← q) at c.refuse_unless.ensures))

pub piecewise_cause-requires : goal.piecewise_cause-requires
piecewise_cause-requires c =
    let e = length-held _ _ _ c.parameter_length.ensures c.ok_or.ensures.value in
    let q = held_by _ _ e c.in_ok-items.was in
    let below = ltb-true _ _ (test-held _ _ (sym c.refuse_unless.ensures ∙ c.in_ok-refuse_unless.was)) in
    omega (arith, below, q.1)

pub returns : goal.returns
unfolding parameter_cause
returns c =
    let e = length-held _ _ _ c.parameter_length.ensures c.ok_or.ensures.value in
    let below = c.refuse_unless.ensures in
    went_on_by _ _ e c.in_ok-items.was (λ q. went_on (rw (← q) at below) c.in_ok-refuse_unless.was c.piecewise_cause.ensures)
