use Rattle.std.proofs.Common.{◌≡◌, refl, arith}
use Rattle.lists.specs.Entries.{entry}
use Rattle.lists.proofs.Steps.{over_none, over-next}
use Rattle.residual.specs.Residual.{subtract_entry, subtract_entries, diagonal}
use Rattle.residual.proofs.residuals.subtract_diagonal.Goals as goal

pub loop-d-init : goal.loop-d-init
loop-d-init c = (omega arith, refl, over_none _ _ _)

pub loop-d-preserved : goal.loop-d-preserved
loop-d-preserved c =
    let x = c.args.answer.now in
    (omega arith, omega arith, over-next (subtract_entry x.dim x.columns x.values.now) (λ k. entry k k c.args.eps) _ _ _ _ c.loop-d.invariant.2 c.subtract_entry.ensures)

pub returns : goal.returns
unfolding subtract_entries diagonal
returns c =
    let e : c.loop-d.d ≡ c.args.answer.now.dim = omega arith in
    rw e at c.loop-d.invariant.2
