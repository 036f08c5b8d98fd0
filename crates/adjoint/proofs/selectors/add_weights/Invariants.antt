use Rattle.std.proofs.Common.{◌≡◌, [], ◌∷◌, length, get_or}
use Rattle.std.specs.Float.{nan}
use Rattle.lists.specs.Entries.{cell}
use Rattle.lists.specs.Steps.{through}
use Rattle.lists.specs.UpTo.{each}
use Rattle.adjoint.specs.Selectors.{add_weight}
use Rattle.adjoint.proofs.selectors.add_weights.Given as goal

abbrev pub invariant-loop-row : goal.invariant-loop-row
invariant-loop-row l =
    let t = l.segment in
    (length l.out ≡ length l.initial.out)
    × (l.out ≡ through (add_weight l.base) (each (length l.yielded) (λ j. cell (get_or t.rows.now j 0) (get_or t.weights.now j nan) ∷ [])) l.initial.out)
