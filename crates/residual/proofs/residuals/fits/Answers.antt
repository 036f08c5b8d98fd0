use Rattle.std.proofs.Common.{sym, ◌∙◌, arith}
use Rattle.residual.specs.Checks.{residual_fits}
use Rattle.sparse.proofs.Fits.{bounds, size}
use Rattle.residual.proofs.residuals.fits.Goals as goal

pub overflow_mul-need : goal.overflow_mul-need
overflow_mul-need c = omega (arith, size (bounds _ _ (sym c.bounded.ensures ∙ c.if-bounded.true)))

pub fit-requires : goal.fit-requires
fit-requires c = (bounds _ _ (sym c.bounded.ensures ∙ c.if-bounded.true)).small

pub returns-then-bounded : goal.returns-then-bounded
unfolding residual_fits
returns-then-bounded c = rw (← c.bounded.ensures, c.if-bounded.true, c.fit.ensures)

pub returns : goal.returns
unfolding residual_fits
returns c = rw (← c.bounded.ensures, c.if-bounded.false)
