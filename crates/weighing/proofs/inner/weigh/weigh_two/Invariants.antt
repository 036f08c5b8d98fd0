-- Both sums so far are over the terms passed.
use Rattle.std.proofs.Common.{◌≡◌, [], ◌∷◌, get_or}
use Rattle.std.specs.Float.{nan}
use Rattle.lists.specs.Entries.{cell}
use Rattle.lists.specs.Steps.{through}
use Rattle.lists.specs.UpTo.{each}
use Rattle.weighing.specs.Weighing.{weigh}
use Rattle.weighing.proofs.inner.weigh.weigh_two.Given as goal

abbrev pub invariant-loop-k : goal.invariant-loop-k
invariant-loop-k l =
    let cells = each l.k (λ j. cell (get_or l.segment.rows.now j 0) (get_or l.segment.weights.now j nan) ∷ []) in
    (l.a ≡ through (weigh l.x 0) cells l.fn.start.a) × (l.b ≡ through (weigh l.x l.segment.dim) cells l.fn.start.b)
