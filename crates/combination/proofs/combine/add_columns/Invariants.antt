use Rattle.std.proofs.Common.{◌+◌, ◌*◌, ◌<◌, ◌≤◌, ◌-◌}
use Rattle.weighing.specs.Gathering.{passed_rows}
use Rattle.combination.specs.Summed.{Summed}
use Rattle.combination.proofs.combine.add_columns.Given as goal

abbrev pub invariant-loop-spot : goal.invariant-loop-spot
invariant-loop-spot l =
    let x = l.rhs in
    (l.spot.column ≤ x.columns) × (l.spot.row < x.dim)
    × Summed l.y.columns x.columns x.dim x.values.now l.y.values.now (passed_rows x.dim l.spot.column l.spot.row) l.initial.out l.out

abbrev pub decreases-loop-spot : goal.decreases-loop-spot
decreases-loop-spot l = l.rhs.dim * l.rhs.columns - (l.spot.column * l.rhs.dim + l.spot.row)
