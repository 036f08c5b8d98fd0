-- The term at first + k is the next one of the segment; behind the last term the terms passed are all of the segment.
use Rattle.std.proofs.Common.{ℕ, ◌+◌, ◌-◌, ◌≡◌, get_or, arith}
use Rattle.std.specs.Float.{nan}
use Rattle.lists.specs.Entries.{cell}
use Rattle.lists.proofs.Steps.{over_none, over-next}
use Rattle.sparse.specs.Sparse.{start_of, segment, item_of}
use Rattle.weighing.specs.Weighing.{weigh, weighed}
use Rattle.weighing.proofs.Columns.{weigh-at}
use Rattle.weighing.proofs.inner.weigh.weigh_one.Goals as goal

pub loop-k-init : goal.loop-k-init
loop-k-init c = over_none _ _ _

pub loop-k-preserved : goal.loop-k-preserved
loop-k-preserved c =
    let x = c.args.x.now in
    let lists = c.args.terms.now.selector in
    let place = λ (j : ℕ). start_of lists.starts.now c.args.s + j in
    let term = λ (j : ℕ). cell (get_or lists.rows.now (place j) 0) (get_or lists.weights.now (place j) nan) in
    let row = get_or lists.rows.now (place c.loop-k.k) 0 in
    over-next (weigh x 0) term _ _ _ _ c.loop-k.invariant (weigh-at x 0 row row _ _ (omega arith))

pub returns : goal.returns
unfolding weighed item_of segment
returns c =
    let starts = c.args.terms.now.selector.starts.now in
    let e : c.loop-k.k ≡ start_of starts (c.args.s + 1) - start_of starts c.args.s = omega arith in
    rw e at c.loop-k.invariant
