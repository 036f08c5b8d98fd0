-- Refused, the list stays as it was; else the combination stands at its front.
use Rattle.std.proofs.Common.{sym, ap, ◌∙◌, ℕ, ◌*◌, arith, Ok, length-take-le}
use Rattle.refusals.proofs.Laws.{ends, left_stopped, left-front, answer-held}
use Rattle.combination.proofs.Fits.{cells, combination-ready}
use Rattle.combination.proofs.direction.forward_adjoint.Goals as goal

pub returns-in_err-check : goal.returns-in_err-check
returns-in_err-check c =
    let e = c.check.ensures in
    let h = c.in_err-check.was in
    record { value = ends _ c.from_residual.ensures.1 h e; out_after = left_stopped e _ _ h }

pub overflow_mul-need : goal.overflow_mul-need
overflow_mul-need c =
    let f = combination-ready (sym c.check.ensures ∙ c.in_ok-check.was) in
    rw c.items.ensures (omega (arith, cells f.has))

pub slice_bounds-combine_into-end : goal.slice_bounds-combine_into-end
slice_bounds-combine_into-end c =
    let f = combination-ready (sym c.check.ensures ∙ c.in_ok-check.was) in
    rw c.items.ensures f.room

pub slice_bounds-combine_into-end-2 : goal.slice_bounds-combine_into-end-2
slice_bounds-combine_into-end-2 c =
    let f = combination-ready (sym c.check.ensures ∙ c.in_ok-check.was) in
    sym (length-take-le _ _ (rw c.items.ensures f.room))

pub combine_into-requires : goal.combine_into-requires
combine_into-requires c =
    let f = combination-ready (sym c.check.ensures ∙ c.in_ok-check.was) in
    (f.fits, rw c.items.ensures (length-take-le _ _ f.room))

pub returns : goal.returns
returns c =
    let h = sym c.check.ensures ∙ c.in_ok-check.was in
    let need = ap (λ (n : ℕ). n * c.args.given.now.columns) c.items.ensures in
    let w = c.combine_into.ensures in
    record { value = ap Ok need ∙ sym (answer-held _ h); out_after = left-front _ _ h w.0 (w.1 ∙ sym need) }
