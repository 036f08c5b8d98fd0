use Rattle.std.proofs.Common.{ℕ, get_or, arith, rules, refl, length-set}
use Rattle.std.specs.Float.{nan}
use Rattle.std.proofs.lemmas.List.{length_push}
use Rattle.lists.specs.Entries.{cell}
use Rattle.lists.proofs.Steps.{over_none, over-next}
use Rattle.sparse.specs.Sparse.{cells}
use Rattle.sparse.proofs.Pairs.{pair_at, pairs-all}
use Rattle.adjoint.specs.Selectors.{add_weight}
use Rattle.adjoint.proofs.selectors.add_weights.Goals as goal

pub loop-row-init : goal.loop-row-init
loop-row-init c = (refl, over_none _ _ _)

pub bounds-out-at : goal.bounds-out-at
bounds-out-at c =
    let a = c.args in
    let t = a.segment.now in
    let p =
    pair_at t.rows.now t.weights.now t.paired c.loop-row.yielded c.into_iter-row-iterator.result c.loop-row.row-iterator
    c.next.new.self _ (search rules) (search rules) c.loop-row.yielded_by (c.in-Some.row, c.in-Some.weight) c.in-Some.is c.next.ensures.steps in
    omega (arith, p.row-is, t.below _ p.within)

pub loop-row-preserved : goal.loop-row-preserved
unfolding add_weight
loop-row-preserved c =
    let a = c.args in
    let t = a.segment.now in
    let p =
    pair_at t.rows.now t.weights.now t.paired c.loop-row.yielded c.into_iter-row-iterator.result c.loop-row.row-iterator
    c.next.new.self _ (search rules) (search rules) c.loop-row.yielded_by (c.in-Some.row, c.in-Some.weight) c.in-Some.is c.next.ensures.steps in
    let pair = λ (j : ℕ). cell (get_or t.rows.now j 0) (get_or t.weights.now j nan) in
    rw length_push (
      simp length-set (omega arith),
      over-next (add_weight a.base) pair _ _ _ _ c.loop-row.invariant.1 (rw (p.row-is, p.weight-is)),
    )

pub returns : goal.returns
unfolding cells
returns c =
    let a = c.args in
    let t = a.segment.now in
    let e =
    pairs-all t.rows.now t.weights.now t.paired c.loop-row.yielded c.into_iter-row-iterator.result c.loop-row.row-iterator
    c.next.new.self _ (search rules) (search rules) c.loop-row.yielded_by c.in-None.is c.next.ensures.steps in
    rw e at c.loop-row.invariant.1
