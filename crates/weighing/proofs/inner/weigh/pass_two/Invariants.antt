use Rattle.std.proofs.Common.{◌+◌, ◌*◌, ◌≡◌}
use Rattle.weighing.specs.Passes.{place, Below, Passed, weighed_by}
use Rattle.weighing.proofs.inner.weigh.pass_two.Given as goal

abbrev pub invariant-loop-s : goal.invariant-loop-s
invariant-loop-s l =
    let at = l.grid.at + l.d * l.grid.dense in
    (l.p ≡ at + l.s * l.grid.across) × (l.q ≡ l.p + l.grid.dense)
    × Passed (place at l.grid.dense l.grid.across) (Below 2 l.s) (weighed_by l.x (l.d * l.x.dim) l.terms) l.initial.out l.out
