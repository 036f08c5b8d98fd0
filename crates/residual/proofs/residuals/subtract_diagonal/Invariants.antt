use Rattle.std.proofs.Common.{◌≤◌, ◌-◌, ◌≡◌, [], ◌∷◌, length}
use Rattle.lists.specs.UpTo.{each}
use Rattle.lists.specs.Entries.{entry}
use Rattle.lists.specs.Steps.{through}
use Rattle.residual.specs.Residual.{subtract_entry}
use Rattle.residual.proofs.residuals.subtract_diagonal.Given as goal

abbrev pub invariant-loop-d : goal.invariant-loop-d
invariant-loop-d l =
    let x = l.answer in
    (l.d ≤ x.dim) × (length l.out ≡ length l.initial.out)
    × (l.out ≡ through (subtract_entry x.dim x.columns x.values.now) (each l.d (λ k. entry k k l.eps ∷ [])) l.initial.out)

abbrev pub decreases-loop-d : goal.decreases-loop-d
decreases-loop-d l = l.answer.dim - l.d
