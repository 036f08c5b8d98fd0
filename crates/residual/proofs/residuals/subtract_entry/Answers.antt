use Rattle.std.proofs.Common.{◌≡◌, refl, arith, length-set}
use Rattle.lists.specs.Entries.{entry}
use Rattle.lists.proofs.Steps.{turns-none, turns_next}
use Rattle.residual.specs.Residual.{subtract_at, subtract_entry}
use Rattle.residual.proofs.residuals.subtract_entry.Goals as goal

pub loop-c-init : goal.loop-c-init
loop-c-init c = (refl, turns-none _ _)

pub loop-c-preserved : goal.loop-c-preserved
unfolding subtract_at
loop-c-preserved c =
    let a = c.args in
    let x = a.answer.now in
    (simp length-set (omega arith), turns_next (subtract_at x.dim x.values.now (entry a.row a.col a.value)) _ _ _ _ c.loop-c.invariant.1 (rw c.loop-c.invariant.1))

pub returns : goal.returns
unfolding subtract_entry
returns c =
    let e : c.loop-c.c ≡ c.args.answer.now.columns = omega arith in
    rw e at c.loop-c.invariant.1
