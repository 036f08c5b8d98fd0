-- Segment s is weighed by the column, and stands at its place; what is left of x begins with the column.
use Rattle.std.proofs.Common.{◌*◌, add-zero, arith}
use Rattle.sparse.proofs.Places.{next-column}
use Rattle.weighing.proofs.Rows.{first-inside, one-row, first_base}
use Rattle.weighing.proofs.Columns.{weighed-behind}
use Rattle.weighing.proofs.inner.weigh.pass_one.Goals as goal

pub bounds-out-p : goal.bounds-out-p
bounds-out-p c = omega (arith, first-inside c.requires.spread c.loop-s.s (omega arith) c.loop-s-test.true, c.loop-s.invariant.1.long)

pub offset_bounds-out-p-in-loop-s : goal.offset_bounds-out-p-in-loop-s
offset_bounds-out-p-in-loop-s c = omega (arith, first-inside c.requires.spread c.loop-s.s (omega arith) c.loop-s-test.true, c.loop-s.invariant.1.long)

pub bounds-out-p-in-loop-s : goal.bounds-out-p-in-loop-s
bounds-out-p-in-loop-s c = omega (arith, first-inside c.requires.spread c.loop-s.s (omega arith) c.loop-s-test.true, c.loop-s.invariant.1.long)

pub overflow_add-p-in-loop-s : goal.overflow_add-p-in-loop-s
overflow_add-p-in-loop-s c = omega (arith, first-inside c.requires.spread c.loop-s.s (omega arith) c.loop-s-test.true, c.loop-s.invariant.1.long)

pub loop-s-preserved : goal.loop-s-preserved
loop-s-preserved c =
    let a = c.args in
    let o = c.loop-s in
    let base = a.d * a.x.now.dim in
    let v = rw (weighed-behind a.x.now.values.now base 0, add-zero base) at c.weigh_one.ensures in
    (omega (arith, next-column o.s a.grid.now.across), one-row c.requires.spread o.invariant.1 c.loop-s-test.true _ _ o.invariant.0 (rw first_base v))
