use Rattle.std.proofs.Common.{◌≡◌, true, [], ◌∷◌, get_or}
use Rattle.std.specs.Float.{nan}
use Rattle.lists.specs.UpTo.{each}
use Rattle.lists.specs.Steps.{through}
use Rattle.sparse.specs.Sparse.{zero64}
use Rattle.residual.specs.Magnitude.{absolute, larger, unsigned}
use Rattle.residual.proofs.magnitude.max_abs.Given as goal

abbrev pub invariant-loop-x : goal.invariant-loop-x
invariant-loop-x l = (unsigned l.m ≡ true) × (l.m ≡ through (λ x m. larger m (absolute x)) (each l.x-index (λ j. get_or l.matrix j nan ∷ [])) zero64)
