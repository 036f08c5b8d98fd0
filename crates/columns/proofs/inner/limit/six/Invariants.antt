-- The stores so far are those of the rows passed. Assumes nothing.
use Rattle.std.proofs.Common.{◌+◌, [], ◌∷◌, ◌≡◌, get_or}
use Rattle.std.specs.Float.{nan}
use Rattle.lists.specs.UpTo.{each}
use Rattle.admittance.specs.Stores.{put, stored_all}
use Rattle.columns.proofs.inner.limit.six.Given as goal

abbrev pub invariant-loop-q : goal.invariant-loop-q
invariant-loop-q l =
    l.column ≡ stored_all (each l.q (λ j. put (l.nvar + (l.base + j)) (get_or l.z (l.base + j) nan) ∷ [])) l.initial.column
