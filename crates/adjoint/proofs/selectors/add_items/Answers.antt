use Rattle.std.proofs.Common.{refl, arith}
use Rattle.lists.proofs.Steps.{turns-none, turns_next}
use Rattle.adjoint.specs.Selectors.{add_item}
use Rattle.sparse.proofs.Places.{column-inside}
use Rattle.adjoint.proofs.selectors.add_items.Goals as goal

pub loop-o-init : goal.loop-o-init
loop-o-init c = (refl, turns-none _ _)

pub add_weights-requires : goal.add_weights-requires
add_weights-requires c = omega (arith, column-inside _ _ c.args.terms.now.dim c.loop-o-test.true)

pub loop-o-preserved : goal.loop-o-preserved
unfolding add_item
loop-o-preserved c =
    let t = c.args.terms.now in
    let s = t.selector in (
      omega arith,
      turns_next (add_item t.dim s.starts.now s.rows.now s.weights.now) _ _ _ _ c.loop-o.invariant.1
          (rw c.segment.ensures.terms at c.add_weights.ensures),
    )
