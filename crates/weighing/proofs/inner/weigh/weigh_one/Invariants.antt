-- The sum so far is over the terms passed.
use Rattle.std.proofs.Common.{◌≡◌, ◌+◌, [], ◌∷◌, get_or}
use Rattle.std.specs.Float.{nan}
use Rattle.lists.specs.Entries.{cell}
use Rattle.lists.specs.Steps.{through}
use Rattle.lists.specs.UpTo.{each}
use Rattle.weighing.specs.Weighing.{weigh}
use Rattle.weighing.proofs.inner.weigh.weigh_one.Given as goal

abbrev pub invariant-loop-k : goal.invariant-loop-k
invariant-loop-k l =
    l.sum ≡ through (weigh l.x 0) (each l.k (λ j. cell (get_or l.rows (l.first + j) 0) (get_or l.weights (l.first + j) nan) ∷ [])) l.a
