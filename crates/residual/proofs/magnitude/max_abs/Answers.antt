use Rattle.std.proofs.Common.{◌≡◌, ap, ◌∙◌, List, arith, length, get_or, Float}
use Rattle.std.specs.Float.{nan}
use Rattle.lists.specs.Steps.{through}
use Rattle.lists.proofs.Steps.{over_none, over-next}
use Rattle.lists.proofs.Overlay.{listed-all}
use Rattle.sparse.specs.Sparse.{zero64}
use Rattle.residual.specs.Magnitude.{absolute, larger, max_abs}
use Rattle.residual.proofs.Larger.{zero_clear}
use Rattle.residual.proofs.magnitude.max_abs.Goals as goal

pub loop-x-init : goal.loop-x-init
loop-x-init c = (zero_clear, over_none _ _ _)

pub loop-x-preserved : goal.loop-x-preserved
loop-x-preserved c = (c.larger_of-m.ensures.1, over-next (λ x m. larger m (absolute x)) (λ j. get_or c.args.matrix.now j nan) _ _ _ _ c.loop-x.invariant.1 c.larger_of-m.ensures.0)

pub returns : goal.returns
unfolding max_abs
returns c =
    let e : c.loop-x.x-index ≡ length c.args.matrix.now = omega arith in
    (rw e at c.loop-x.invariant.1) ∙ ap (λ (l : List Float). through (λ x m. larger m (absolute x)) l zero64) (listed-all _ nan)
