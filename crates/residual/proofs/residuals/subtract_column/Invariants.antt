-- `residual::residuals::subtract_column` meets its contract. Assumes nothing.
use Rattle.std.proofs.Common.{◌*◌, ◌≤◌, ◌-◌, ◌≡◌, [], ◌∷◌, length, get_or}
use Rattle.std.specs.Float.{nan}
use Rattle.lists.specs.UpTo.{each}
use Rattle.lists.specs.Entries.{entry}
use Rattle.lists.specs.Steps.{through}
use Rattle.residual.specs.Residual.{subtract_at}
use Rattle.residual.proofs.residuals.subtract_column.Given as goal

abbrev pub invariant-loop-j : goal.invariant-loop-j
invariant-loop-j l =
    (l.j ≤ l.j-end) × (l.j-end ≡ length l.rows) × (l.base ≡ l.c * l.answer.dim) × (length l.out ≡ length l.initial.out)
    × (l.out ≡ through (λ e. subtract_at l.answer.dim l.answer.values.now e l.c) (each l.j (λ k. entry (get_or l.rows k 0) (get_or l.cols k 0) (get_or l.values k nan) ∷ [])) l.initial.out)

abbrev pub decreases-loop-j : goal.decreases-loop-j
decreases-loop-j l = l.j-end - l.j
