use Rattle.std.proofs.Common.{◌*◌}
use Rattle.weighing.specs.Passes.{place, Below, Passed, weighed_by}
use Rattle.weighing.proofs.inner.weigh.weigh_all.Given as goal

abbrev pub invariant-loop-pair : goal.invariant-loop-pair
invariant-loop-pair l =
    Passed (place l.grid.at l.grid.dense l.grid.across) (Below (2 * l.pair) l.terms.segments) (weighed_by l.x 0 l.terms) l.initial.out l.out
