-- Segment s is weighed by both columns, and stands at its two places; what is left of x begins with the columns.
use Rattle.std.proofs.Common.{◌*◌, add-zero, arith, length-set}
use Rattle.sparse.proofs.Places.{next-column}
use Rattle.weighing.proofs.Rows.{first-inside, second-inside, two-rows, first_base, second_base}
use Rattle.weighing.proofs.Columns.{weighed-behind}
use Rattle.weighing.proofs.inner.weigh.pass_two.Goals as goal

pub offset_bounds-out-p-in-loop-s : goal.offset_bounds-out-p-in-loop-s
offset_bounds-out-p-in-loop-s c = omega (arith, first-inside c.requires.spread c.loop-s.s (omega arith) c.loop-s-test.true, c.loop-s.invariant.2.long)

pub bounds-out-p-in-loop-s : goal.bounds-out-p-in-loop-s
bounds-out-p-in-loop-s c = omega (arith, first-inside c.requires.spread c.loop-s.s (omega arith) c.loop-s-test.true, c.loop-s.invariant.2.long)

pub offset_bounds-out-q-in-loop-s : goal.offset_bounds-out-q-in-loop-s
offset_bounds-out-q-in-loop-s c = omega (arith, second-inside c.requires.spread c.loop-s.s (omega arith) c.loop-s-test.true, c.loop-s.invariant.2.long)

pub bounds-out-q-in-loop-s : goal.bounds-out-q-in-loop-s
bounds-out-q-in-loop-s c =
    simp length-set (omega (arith, second-inside c.requires.spread c.loop-s.s (omega arith) c.loop-s-test.true, c.loop-s.invariant.2.long))

pub overflow_add-p-in-loop-s : goal.overflow_add-p-in-loop-s
overflow_add-p-in-loop-s c = omega (arith, first-inside c.requires.spread c.loop-s.s (omega arith) c.loop-s-test.true, c.loop-s.invariant.2.long)

pub overflow_add-q-in-loop-s : goal.overflow_add-q-in-loop-s
overflow_add-q-in-loop-s c = omega (arith, second-inside c.requires.spread c.loop-s.s (omega arith) c.loop-s-test.true, c.loop-s.invariant.2.long)

pub loop-s-preserved : goal.loop-s-preserved
loop-s-preserved c =
    let o = c.loop-s in
    let x = c.args.x.now in
    let base = c.args.d * x.dim in
    let a = rw (c.segment.ensures.terms, weighed-behind x.values.now base 0, add-zero base) at c.weigh_two-two.ensures.a_value in
    let b = rw (c.segment.ensures.terms, c.segment.ensures.dim, ← c.requires.d.1, weighed-behind x.values.now base) at c.weigh_two-two.ensures.b_value in (
      omega (arith, next-column o.s c.args.grid.now.across),
      omega arith,
      two-rows c.requires.spread o.invariant.2 c.loop-s-test.true _ _ _ _ o.invariant.0 o.invariant.1 (rw first_base a) (rw second_base b),
    )
