-- Lists that don't fit end the check, or the room decides.
use Rattle.std.proofs.Common.{sym, ◌∙◌}
use Rattle.refusals.proofs.Laws.{ends, went_on, test-held}
use Rattle.residual.specs.Checks.{residual_check}
use Rattle.residual.proofs.Fits.{resided}
use Rattle.residual.proofs.residuals.check.Goals as goal

pub returns-in_err-refuse_unless : goal.returns-in_err-refuse_unless
unfolding residual_check
returns-in_err-refuse_unless c =
    let fits = rw c.fits.ensures at c.refuse_unless.ensures in
    ends _ c.from_residual.ensures.1 c.in_err-refuse_unless.was fits

pub returns : goal.returns
unfolding residual_check
returns c =
    let fits = rw c.fits.ensures at c.refuse_unless.ensures in
    let f = resided _ _ _ _ _ _ _ (test-held _ _ (sym fits ∙ c.in_ok-refuse_unless.was)) in
    went_on fits c.in_ok-refuse_unless.was (rw f.rhs-size at c.room_for.ensures)
