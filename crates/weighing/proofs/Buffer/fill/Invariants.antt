use Rattle.std.proofs.Common.{◌-◌}
use Rattle.weighing.proofs.Walking.{Walking}
use Rattle.weighing.proofs.Buffer.fill.Given as goal

abbrev pub invariant-loop-c : goal.invariant-loop-c
invariant-loop-c l =
    let x = l.rhs in
    let b = l.self in
    Walking x.dim x.columns l.fn.from.column l.fn.from.row x.values.now l.c l.r b.starts b.rows b.values b.segments b.count

abbrev pub decreases-loop-c : goal.decreases-loop-c
decreases-loop-c l = 8 - l.self.segments
