-- Only bounded products are taken.
use Rattle.std.proofs.Common.{◌≡◌, true, sym, ◌∙◌, arith}
use Rattle.lists.proofs.Tests.{both}
use Rattle.sparse.specs.Checks.{bounded}
use Rattle.sparse.proofs.Fits.{bounds, selected, size}
use Rattle.combination.specs.Checks.{combination_fits}
use Rattle.combination.specs.Given.{solved_lists_fit}
use Rattle.combination.proofs.Fits.{unfit}
use Rattle.combination.proofs.direction.fits.Goals as goal

pub returns-then-not-lists_fit : goal.returns-then-not-lists_fit
returns-then-not-lists_fit c = unfit _ _ _ _ _ _ _ c.args.mode (sym c.lists_fit.ensures ∙ c.if-not-lists_fit.true)

pub overflow_mul-size : goal.overflow_mul-size
overflow_mul-size c =
    let g = c.args.given.now in
    let fit = both (bounded g.dim g.columns) _ (sym c.lists_fit.ensures ∙ c.if-not-lists_fit.false) in
    omega (arith, size (bounds _ _ fit.0))

pub overflow_mul-result : goal.overflow_mul-result
overflow_mul-result c =
    let g = c.args.given.now in
    let fit = both (bounded g.dim g.columns) _ (sym c.lists_fit.ensures ∙ c.if-not-lists_fit.false) in
    rw c.items.ensures (omega (arith, size (selected _ _ _ _ fit.1).bounds))

pub returns-in-Forward : goal.returns-in-Forward
unfolding combination_fits
returns-in-Forward c =
    let fit : solved_lists_fit c.args.given.now ≡ true = sym c.lists_fit.ensures ∙ c.if-not-lists_fit.false in
    rw (c.in-Forward.is, fit)

pub returns-in-Adjoint : goal.returns-in-Adjoint
unfolding combination_fits
returns-in-Adjoint c =
    let fit : solved_lists_fit c.args.given.now ≡ true = sym c.lists_fit.ensures ∙ c.if-not-lists_fit.false in
    rw (c.in-Adjoint.is, fit, c.items.ensures)

pub returns-in-Auto : goal.returns-in-Auto
unfolding combination_fits
returns-in-Auto c = rw c.in-Auto.is
