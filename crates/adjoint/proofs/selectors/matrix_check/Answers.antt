-- Lists that don't fit end the check, or the room decides.
use Rattle.std.proofs.Common.{sym, ◌∙◌, arith}
use Rattle.refusals.proofs.Laws.{ends, went_on, test-held}
use Rattle.adjoint.specs.Checks.{matrix_check}
use Rattle.sparse.proofs.Fits.{selected, size}
use Rattle.adjoint.proofs.selectors.matrix_check.Goals as goal

pub returns-in_err-refuse_unless : goal.returns-in_err-refuse_unless
unfolding matrix_check
returns-in_err-refuse_unless c =
    let fits = rw c.fits.ensures at c.refuse_unless.ensures in
    ends _ c.from_residual.ensures.1 c.in_err-refuse_unless.was fits

pub overflow_mul-dim : goal.overflow_mul-dim
overflow_mul-dim c =
    let fits = rw c.fits.ensures at c.refuse_unless.ensures in
    let f = selected _ _ _ _ (test-held _ _ (sym fits ∙ c.in_ok-refuse_unless.was)) in
    rw c.items.ensures (omega (arith, size f.bounds))

pub returns : goal.returns
unfolding matrix_check
returns c =
    let fits = rw c.fits.ensures at c.refuse_unless.ensures in
    went_on fits c.in_ok-refuse_unless.was (rw c.items.ensures at c.room_for.ensures)
