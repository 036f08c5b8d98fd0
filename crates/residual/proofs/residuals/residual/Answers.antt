-- Refused, the list stays as it was; else the residual stands at its front.
use Rattle.std.proofs.Common.{sym, ap, ◌∙◌, ◌≤◌, length, arith, Ok, length-take-le}
use Rattle.refusals.proofs.Laws.{ends, left_stopped, left-front, answer-held}
use Rattle.residual.proofs.Fits.{residual-ready}
use Rattle.residual.proofs.residuals.residual.Goals as goal

pub returns-in_err-check : goal.returns-in_err-check
returns-in_err-check c =
    let e = c.check.ensures in
    let h = c.in_err-check.was in
    record { value = ends _ c.from_residual.ensures.1 h e; out_after = left_stopped e _ _ h }

pub slice_bounds-residual_into-end : goal.slice_bounds-residual_into-end
slice_bounds-residual_into-end c =
    let f = residual-ready (sym c.check.ensures ∙ c.in_ok-check.was) in
    omega arith

pub slice_bounds-residual_into-end-2 : goal.slice_bounds-residual_into-end-2
slice_bounds-residual_into-end-2 c =
    let f = residual-ready (sym c.check.ensures ∙ c.in_ok-check.was) in
    sym (length-take-le _ _ (omega arith))

pub residual_into-requires : goal.residual_into-requires
residual_into-requires c =
    let f = residual-ready (sym c.check.ensures ∙ c.in_ok-check.was) in
    let l : length c.args.system.now.rhs.now ≤ length c.args.out.now = omega arith in
    (f.fits, length-take-le _ _ l ∙ f.has.rhs-size)

pub returns : goal.returns
returns c =
    let h = sym c.check.ensures ∙ c.in_ok-check.was in
    let size = (residual-ready h).has.rhs-size in
    let w = c.residual_into.ensures in
    record { value = ap Ok size ∙ sym (answer-held _ h); out_after = left-front _ _ h w.0 (w.1 ∙ sym size) }
