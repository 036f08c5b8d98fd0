-- The term at k is the next one, and its row lies below the dim; behind the last term the terms passed are all of the segment.
use Rattle.std.proofs.Common.{ℕ, length, get_or, ◌≡◌, arith}
use Rattle.std.specs.Float.{nan}
use Rattle.lists.specs.Entries.{cell}
use Rattle.lists.proofs.Steps.{over_none, over-next}
use Rattle.sparse.specs.Sparse.{cells}
use Rattle.weighing.specs.Weighing.{weigh, weighed}
use Rattle.weighing.proofs.Columns.{weigh-at}
use Rattle.weighing.proofs.inner.weigh.weigh_two.Goals as goal

pub loop-k-init : goal.loop-k-init
loop-k-init c = (over_none _ _ _, over_none _ _ _)

pub bounds-x-here : goal.bounds-x-here
bounds-x-here c = omega (arith, c.args.segment.now.below c.loop-k.k)

pub bounds-x-there : goal.bounds-x-there
bounds-x-there c = omega (arith, c.args.segment.now.below c.loop-k.k)

pub loop-k-preserved : goal.loop-k-preserved
loop-k-preserved c =
    let x = c.args.x.now in
    let t = c.args.segment.now in
    let term = λ (j : ℕ). cell (get_or t.rows.now j 0) (get_or t.weights.now j nan) in
    let row = get_or t.rows.now c.loop-k.k 0 in (
      over-next (weigh x 0) term _ _ _ _ c.loop-k.invariant.0 (weigh-at x 0 _ row _ _ (omega arith)),
      over-next (weigh x t.dim) term _ _ _ _ c.loop-k.invariant.1 (weigh-at x t.dim _ row _ _ (omega arith)),
    )

pub returns : goal.returns
unfolding weighed cells
returns c =
    let e : c.loop-k.k ≡ length c.args.segment.now.rows.now = omega arith in
    record { a_value = rw e at c.loop-k.invariant.0; b_value = rw e at c.loop-k.invariant.1 }
