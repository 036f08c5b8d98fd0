-- Refused, the list stays as it was; else the matrix stands at its front.
use Rattle.std.proofs.Common.{refl, sym, ap, ◌∙◌, ℕ, ◌*◌, arith, Ok, length-take-le}
use Rattle.refusals.proofs.Laws.{ends, left_stopped, left-front, answer-held}
use Rattle.sparse.proofs.Fits.{size}
use Rattle.adjoint.proofs.Fits.{matrix-ready}
use Rattle.adjoint.proofs.selectors.selector_matrix.Goals as goal

pub returns-in_err-matrix_check : goal.returns-in_err-matrix_check
returns-in_err-matrix_check c =
    let e = c.matrix_check.ensures in
    let h = c.in_err-matrix_check.was in
    record { value = ends _ c.from_residual.ensures.1 h e; out_after = left_stopped e _ _ h }

pub overflow_mul-need : goal.overflow_mul-need
overflow_mul-need c =
    let f = matrix-ready (sym c.matrix_check.ensures ∙ c.in_ok-matrix_check.was) in
    rw c.items.ensures (omega (arith, size f.has.bounds))

pub slice_bounds-matrix_into-end : goal.slice_bounds-matrix_into-end
slice_bounds-matrix_into-end c =
    let f = matrix-ready (sym c.matrix_check.ensures ∙ c.in_ok-matrix_check.was) in
    rw c.items.ensures f.room

pub slice_bounds-matrix_into-end-2 : goal.slice_bounds-matrix_into-end-2
slice_bounds-matrix_into-end-2 c =
    let f = matrix-ready (sym c.matrix_check.ensures ∙ c.in_ok-matrix_check.was) in
    sym (length-take-le _ _ (rw c.items.ensures f.room))

pub terms-requires : goal.terms-requires
terms-requires c = (matrix-ready (sym c.matrix_check.ensures ∙ c.in_ok-matrix_check.was)).fits

pub matrix_into-requires : goal.matrix_into-requires
matrix_into-requires c =
    let f = matrix-ready (sym c.matrix_check.ensures ∙ c.in_ok-matrix_check.was) in
    let t = c.terms.ensures in
    rw (t.selector, t.segments, t.dim, c.items.ensures) (refl, length-take-le _ _ f.room)

pub returns : goal.returns
returns c =
    let h = sym c.matrix_check.ensures ∙ c.in_ok-matrix_check.was in
    let need = ap (λ (n : ℕ). c.args.dim * n) c.items.ensures in
    let t = c.terms.ensures in
    let w = rw (t.selector, t.segments, t.dim) at c.matrix_into.ensures in
    record { value = ap Ok need ∙ sym (answer-held _ h); out_after = left-front _ _ h w.0 (w.1 ∙ sym need) }
