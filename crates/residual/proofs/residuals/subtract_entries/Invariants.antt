-- `residual::residuals::subtract_entries` meets its contract. Assumes nothing.
use Rattle.std.proofs.Common.{◌≤◌, ◌-◌, ◌≡◌, length}
use Rattle.lists.specs.Steps.{turns}
use Rattle.sparse.specs.Sparse.{entries}
use Rattle.residual.specs.Residual.{subtract_column}
use Rattle.residual.proofs.residuals.subtract_entries.Given as goal

abbrev pub invariant-loop-c : goal.invariant-loop-c
invariant-loop-c l =
    let x = l.answer in
    let e = l.entries in
    (l.c ≤ x.columns) × (length l.out ≡ length l.initial.out) × (l.out ≡ turns (subtract_column x.dim x.values.now (entries e.rows.now e.cols.now e.values.now)) l.c l.initial.out)

abbrev pub decreases-loop-c : goal.decreases-loop-c
decreases-loop-c l = l.answer.columns - l.c
