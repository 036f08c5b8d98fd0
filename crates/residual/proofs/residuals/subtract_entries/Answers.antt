-- `residual::residuals::subtract_entries` meets its contract. Assumes nothing.
use Rattle.std.proofs.Common.{◌≡◌, refl, ◌∙◌, arith}
use Rattle.lists.proofs.Steps.{turns-none, turns_next}
use Rattle.sparse.specs.Sparse.{entries}
use Rattle.sparse.proofs.Fits.{entered}
use Rattle.residual.specs.Residual.{subtract_column}
use Rattle.residual.proofs.ByColumns.{columns-subtract}
use Rattle.residual.proofs.residuals.subtract_entries.Goals as goal

pub loop-c-init : goal.loop-c-init
loop-c-init c = (omega arith, refl, turns-none _ _)

pub loop-c-preserved : goal.loop-c-preserved
loop-c-preserved c =
    let x = c.args.answer.now in
    let e = c.args.entries.now in
    (omega arith, omega arith, turns_next (subtract_column x.dim x.values.now (entries e.rows.now e.cols.now e.values.now)) _ _ _ _ c.loop-c.invariant.2 c.subtract_column.ensures)

pub returns : goal.returns
returns c =
    let x = c.args.answer.now in
    let e : c.loop-c.c ≡ x.columns = omega arith in
    (rw e at c.loop-c.invariant.2) ∙ columns-subtract x.dim x.values.now x.columns (entered _ _ _ _ c.requires.0) _
